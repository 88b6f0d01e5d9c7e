-- The range reduction against the exact one: the code's k is the nearest, and its rest is within a unit of the exact rest, with its sign unless it is 0.
-- x is a / b in size, X its units of 2 ^ -54 rounded down. L and D are the digits of ln 2 and their scale, A = a * D and K = k * L * b, so that the exact rest is A - K over b * D. Assumes nothing.
use Rattle.std.proofs.Common.{◌≡◌, ℕ, suc, ◌+◌, ◌-◌, ◌*◌, ◌^◌, ◌<◌, ◌≤◌, ◌⊎◌, sym, refl, ap, subst, inl, inr, le_trans, mul-le-mul_right, eq-zero-or-pos, lt_of_mul-lt-mul_right, mul-le-mul_left, mul-lt-mul_of_pos_right, mul-pos, add-one, arith, lit<, lit≤}
use native.Mathlib.Decide.{dec_le}
use Rattle.elementary.specs.Exact.{ten40, L40}
use Rattle.exponential.specs.Exp.{multiples}
use Rattle.exponential.proofs.Table.{above_floor, floor_le, below_next}
use Rattle.exponential.proofs.Guess.{Nearest, multiples_ge}
use Rattle.exponential.proofs.Scaled.{U, Units}

pub digits_pos : 0 < L40
unfolding L40
digits_pos = lit< tt

pub scale_pos : 0 < ten40
unfolding ten40
scale_pos = lit< tt

-- ln 2 is above 1/2
ln_least : ten40 ≤ 2 * L40
unfolding L40 ten40
ln_least = lit≤ tt

-- what the reduction has to know of k: k * L is within L / 2 of x
pub record Turned (a b k : ℕ) : Type 0 where
  pub above : 1 ≤ k → (2 * k - 1) * (b * L40) < 2 * (a * ten40)
  pub below : 2 * (a * ten40) < (2 * k + 1) * (b * L40)

-- ---- how far apart two numbers are
abbrev pub gap : ℕ → ℕ → ℕ
gap p q = (p - q) + (q - p)

abbrev pub Apart : (p q d : ℕ) → Type 0
Apart p q d = (q + d ≡ p) ⊎ (p + d ≡ q)

pub apart : (p q : ℕ) → Apart p q (gap p q)
apart p q = go (dec_le p q)
  where
    go : Dec (p ≤ q) → Apart p q (gap p q)
    go (yes h) = inr (omega arith)
    go (no h) = inl (omega arith)

-- the code's rest R and the exact one, r over Z, in units of 1 / U: within one unit of each other
abbrev Within : (Z R r : ℕ) → Type 0
Within Z R r = (R * Z ≤ r * U + Z) × (r * U ≤ R * Z + Z)

-- where X * Z is A * U, and M * Z is K * U rounded down
within : (X M A K Z R r : ℕ) → X * Z ≡ A * U → M * Z ≤ K * U → K * U < M * Z + Z → Apart X M R → Apart A K r → Within Z R r
within X M A K Z R r e l h (inl x) (inl y) = let x' = ap (λ (z : ℕ). z * Z) x in let y' = ap (λ (z : ℕ). z * U) y in (omega arith, omega arith)
within X M A K Z R r e l h (inl x) (inr y) = let x' = ap (λ (z : ℕ). z * Z) x in let y' = ap (λ (z : ℕ). z * U) y in (omega arith, omega arith)
within X M A K Z R r e l h (inr x) (inl y) = let x' = ap (λ (z : ℕ). z * Z) x in let y' = ap (λ (z : ℕ). z * U) y in (omega arith, omega arith)
within X M A K Z R r e l h (inr x) (inr y) = let x' = ap (λ (z : ℕ). z * Z) x in let y' = ap (λ (z : ℕ). z * U) y in (omega arith, omega arith)

-- what is shown of the rests
pub record Near (X M A K Z : ℕ) : Type 0 where
  pub hi : gap X M * Z ≤ gap A K * U + Z
  pub lo : gap A K * U ≤ gap X M * Z + Z
  pub less : X < M → A < K
  pub more : M < X → K < A

near_exact : (X M A K Z : ℕ) → 0 < Z → X * Z ≡ A * U → M * Z ≤ K * U → K * U < M * Z + Z → Near X M A K Z
near_exact X M A K Z z e l h = record {
  hi = w.0;
  lo = w.1;
  less = λ p. lt_of_mul-lt-mul_right U (omega (arith, mul-lt-mul_of_pos_right p z));
  more = λ p. lt_of_mul-lt-mul_right U (omega (arith, mul-le-mul_right Z p));
}
  where
    w : Within Z (gap X M) (gap A K)
    w = within X M A K Z (gap X M) (gap A K) e l h (apart X M) (apart A K)

-- where X is rounded down and there is no turn
near_tiny : (X A Z : ℕ) → 0 < Z → X * Z ≤ A * U → A * U < X * Z + Z → Near X 0 A 0 Z
near_tiny X A Z z l h = record {
  hi = subst (λ (n : ℕ). n * Z ≤ gap A 0 * U + Z) (sym (same X)) (subst (λ (n : ℕ). X * Z ≤ n * U + Z) (sym (same A)) (omega arith));
  lo = subst (λ (n : ℕ). gap A 0 * U ≤ n * Z + Z) (sym (same X)) (subst (λ (n : ℕ). n * U ≤ X * Z + Z) (sym (same A)) (omega arith));
  less = λ p. absurd (omega arith);
  more = λ p. lt_of_mul-lt-mul_right U (omega (arith, mul-pos p z));
}
  where
    same : (p : ℕ) → gap p 0 ≡ p
    same p = omega arith

multiples_zero : multiples 0 ≡ 0
unfolding multiples
multiples_zero = refl

-- ---- the code's k
module _ (a b X k : ℕ) (u : Units a b X) (n : Nearest X k) where
  -- below 1/4 there is no turn
  pub none : 4 * a < b → k ≡ 0
  none h = go (eq-zero-or-pos k)
    where
      clash : (M : ℕ) → 6243314768165359 ≤ M → M < X → ⊥
      clash M m l = let x : 6243314768165360 * b ≤ X * b = mul-le-mul_right b (le_trans (omega arith) l) in omega (arith, u.lo)

      first : (k : ℕ) → 1 ≤ k → (2 * k - 1) * 6243314768165359 ≤ multiples (2 * k - 1) → 6243314768165359 ≤ multiples (2 * k - 1)
      first k K g = omega arith

      go : (k ≡ 0) ⊎ (0 < k) → k ≡ 0
      go (inl e) = e
      go (inr p) = absurd (clash (multiples (2 * k - 1)) (first k p (multiples_ge (2 * k - 1))) (n.2 p))

  -- so X is exact, or there is no turn
  either : ((4 * a < b) × (k ≡ 0)) ⊎ (X * b ≡ a * U)
  either = go u.exact
    where
      go : (4 * a < b) ⊎ (X * b ≡ a * U) → ((4 * a < b) × (k ≡ 0)) ⊎ (X * b ≡ a * U)
      go (inl h) = inl (h, none h)
      go (inr e) = inr e

  pub turned : Turned a b k
  turned = go either
    where
      over : (j M L D : ℕ) → j * L * 2 ^ 53 < suc M * D → M < X → X * b ≡ a * U → j * (b * L) < 2 * (a * D)
      over j M L D h m e =
          let x : suc M * D * b ≤ X * D * b = mul-le-mul_right b (mul-le-mul_right D m) in
          let y : j * L * 2 ^ 53 * b < suc M * D * b = mul-lt-mul_of_pos_right h u.under in
          let w : X * b * D ≡ a * U * D = ap (λ (z : ℕ). z * D) e in
          lt_of_mul-lt-mul_right (2 ^ 53) (omega arith)

      under : (j M L D : ℕ) → M * D < j * L * 2 ^ 53 → X ≤ M → X * b ≡ a * U → 2 * (a * D) < j * (b * L)
      under j M L D h m e =
          let x : X * D * b ≤ M * D * b = mul-le-mul_right b (mul-le-mul_right D m) in
          let y : M * D * b < j * L * 2 ^ 53 * b = mul-lt-mul_of_pos_right h u.under in
          let w : X * b * D ≡ a * U * D = ap (λ (z : ℕ). z * D) e in
          lt_of_mul-lt-mul_right (2 ^ 53) (omega arith)

      tiny : (L D : ℕ) → 0 < D → D ≤ 2 * L → 4 * a < b → 2 * (a * D) < (2 * 0 + 1) * (b * L)
      tiny L D P g h = omega (arith, mul-lt-mul_of_pos_right h P, mul-le-mul_left b g)

      go : ((4 * a < b) × (k ≡ 0)) ⊎ (X * b ≡ a * U) → Turned a b k
      go (inl h) = subst (λ (z : ℕ). Turned a b z) (sym h.1) (record { above = λ p. absurd (omega arith); below = tiny L40 ten40 scale_pos ln_least h.0 })
      go (inr e) = record {
        above = λ p. over (2 * k - 1) (multiples (2 * k - 1)) L40 ten40 (below_next (2 * k - 1) (omega (arith, n.0))) (n.2 p) e;
        below = under (2 * k + 1) (multiples (2 * k + 1)) L40 ten40 (odd_above (2 * k) (omega (arith, n.0))) n.1 e;
      }
        where
          odd_above : (j : ℕ) → j + 1 < 2048 → multiples (j + 1) * ten40 < (j + 1) * L40 * 2 ^ 53
          odd_above j h = rw (add-one j) (above_floor j (omega arith))

  pub near : Near X (multiples (2 * k)) (a * ten40) (k * L40 * b) (b * ten40)
  near = go either
    where
      Z⁺ : 0 < b * ten40
      Z⁺ = mul-pos u.under scale_pos

      exact : (M L D : ℕ) → 0 < b * D → X * b ≡ a * U → M * D ≤ 2 * k * L * 2 ^ 53 → 2 * k * L * 2 ^ 53 < suc M * D → Near X M (a * D) (k * L * b) (b * D)
      exact M L D z e l h =
          let x : X * b * D ≡ a * U * D = ap (λ (w : ℕ). w * D) e in
          let y : M * D * b ≤ 2 * k * L * 2 ^ 53 * b = mul-le-mul_right b l in
          let w : 2 * k * L * 2 ^ 53 * b < suc M * D * b = mul-lt-mul_of_pos_right h u.under in
          near_exact X M (a * D) (k * L * b) (b * D) z (omega arith) (omega arith) (omega arith)

      tiny : (D : ℕ) → 0 < b * D → 0 < D → Near X 0 (a * D) 0 (b * D)
      tiny D z p =
          let x : X * b * D ≤ a * U * D = mul-le-mul_right D u.lo in
          let y : a * U * D < (X * b + b) * D = mul-lt-mul_of_pos_right u.hi p in
          near_tiny X (a * D) (b * D) z (omega arith) (omega arith)

      zeros : (L b : ℕ) → 0 ≡ 0 * L * b
      zeros L b = omega arith

      go : ((4 * a < b) × (k ≡ 0)) ⊎ (X * b ≡ a * U) → Near X (multiples (2 * k)) (a * ten40) (k * L40 * b) (b * ten40)
      go (inl h) = subst (λ (z : ℕ). Near X (multiples (2 * z)) (a * ten40) (z * L40 * b) (b * ten40)) (sym h.1) (subst (λ (z : ℕ). Near X (multiples 0) (a * ten40) z (b * ten40)) (zeros L40 b) (subst (λ (z : ℕ). Near X z (a * ten40) 0 (b * ten40)) (sym multiples_zero) (tiny ten40 Z⁺ scale_pos)))
      go (inr e) = exact (multiples (2 * k)) L40 ten40 Z⁺ e (floor_le (2 * k) (omega (arith, n.0))) (below_next (2 * k) (omega (arith, n.0)))
