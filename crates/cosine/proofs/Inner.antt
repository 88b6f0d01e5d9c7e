-- The inner part of the sum: the code's steps are within e units of Horner's value of the series, where the square is within s. Assumes nothing.
use Rattle.std.proofs.Common.{◌≡◌, ℕ, zero, suc, ◌-◌, ◌*◌, ◌/◌, ◌<◌, ◌≤◌, true, sym, ap, ◌∙◌, subst, le_trans, le_of_lt, mul-le-mul_left, mul-pos, div-mul-le_self, arith, lit≤}
use native.Mathlib.Nat.{mul-sub, lt-div-mul-add}
use Rattle.elementary.specs.Series.{factorial, even_factorial}
use Rattle.elementary.proofs.Chain.{under, over, Shrinks}
use Rattle.cosine.specs.Cos.{one, pair, alternating}
use Rattle.cosine.proofs.Steps.{Square, Near, Budget, near_scaled, step}

-- ---- the divisors
abbrev pub g : ℕ → ℕ
g = even_factorial

g_next : (j : ℕ) → g (suc j) ≡ g j * pair j
unfolding even_factorial factorial
g_next j = ap factorial (two j) ∙ turn (factorial (2 * j))
  where
    two : (j : ℕ) → 2 * suc j ≡ suc (suc (2 * j))
    two j = omega arith

    turn : (f : ℕ) → suc (suc (2 * j)) * (suc (2 * j) * f) ≡ f * pair j
    turn f = omega arith

pair_least : (j : ℕ) → 1 ≤ j → 12 ≤ pair j
pair_least zero h = absurd (omega arith)
pair_least (suc j) h = omega arith

g_above : (j : ℕ) → 1 ≤ g j
unfolding even_factorial factorial
g_above zero = lit≤ tt
g_above (suc j) = subst (λ (z : ℕ). 1 ≤ z) (sym (g_next j)) (mul-pos (g_above j) (omega arith))

-- from the second term on a term is less than the one before it
pub shrinks : (ω Ω : ℕ) → ω ≤ 10 * Ω → Shrinks 1 1 g ω Ω 1
shrinks ω Ω h j l = subst (λ (z : ℕ). 1 * (g j * ω) ≤ 1 * (z * Ω)) (sym (g_next j)) (go (g j) (pair j) (pair_least j l))
  where
    go : (f d : ℕ) → 12 ≤ d → 1 * (f * ω) ≤ 1 * (f * d * Ω)
    go f d k = omega (arith, mul-le-mul_left f h, mul-le-mul_left (f * Ω) k)

-- ---- the code's steps
module _ (s e A Ω ω : ℕ) (Ω⁺ : 1 ≤ Ω) (b : Budget s e one) (a : Square s one A Ω ω) where
  pub inner : (i n : ℕ) → 1 ≤ i → Near e one (alternating A i n) (g i * over g true ω Ω i n) (under g Ω i n)
  unfolding alternating over under
  inner i zero l = record { hi = omega arith; lo = omega arith; most = omega arith; cap = omega arith; pos = g_above i }
  inner i (suc n) l =
      let P = alternating A (suc i) n in
      let o = over g true ω Ω (suc i) n in
      let u = under g Ω (suc i) n in
      let d = pair i in
      let w : Near e one (one - A * P / (one * d)) (u * (d * Ω) - ω * (g (suc i) * o)) (u * (d * Ω)) = step s e one A Ω ω P (g (suc i) * o) u d (lit≤ tt) Ω⁺ b a (inner (suc i) n (omega arith)) (pair_least i l) (A * P / (one * d)) (div-mul-le_self (A * P) (one * d)) (le_of_lt (lt-div-mul-add {a = A * P} {b = one * d} (above d (pair_least i l)))) in
      near_scaled e one (one - A * P / (one * d)) (Ω * u - g i * (ω * o)) (Ω * u) d (g i) (le_trans (lit≤ tt) (pair_least i l)) (g_above i)
      (subst (λ (z : ℕ). Near e one (one - A * P / (one * d)) z (d * (Ω * u))) (less (g (suc i)) (g i) o u d (g_next i))
      (subst (λ (z : ℕ). Near e one (one - A * P / (one * d)) (z - ω * (g (suc i) * o)) z) (turn u d) w))
    where
      above : (d : ℕ) → 12 ≤ d → 0 < one * d
      above d h = omega arith

      turn : (u d : ℕ) → u * (d * Ω) ≡ d * (Ω * u)
      turn u d = omega arith

      less : (f' f o u d : ℕ) → f' ≡ f * d → d * (Ω * u) - ω * (f' * o) ≡ d * (Ω * u - f * (ω * o))
      less f' f o u d e = ap (λ (z : ℕ). d * (Ω * u) - z) (ap (λ (z : ℕ). ω * (z * o)) e ∙ move f o d) ∙ sym (mul-sub d (Ω * u) (f * (ω * o)))
        where
          move : (f o d : ℕ) → ω * (f * d * o) ≡ d * (f * (ω * o))
          move f o d = omega arith

-- ---- what the code needs of its own numbers: its square is a square of itself
pub own : (a : ℕ) → a ≤ 10 * one → Square 0 one a one a
own a h = record { hi = omega arith; lo = omega arith; small = h; most = h }

pub own_budget : Budget 0 7 one
own_budget = record { cross = lit≤ tt; room = lit≤ tt }

own_inner : (a i n : ℕ) → a ≤ 10 * one → 1 ≤ i → Near 7 one (alternating a i n) (g i * over g true a one i n) (under g one i n)
own_inner a i n h l = inner 0 7 a one a (lit≤ tt) own_budget (own a h) i n l

pub code_cap : (a i n : ℕ) → a ≤ 10 * one → 1 ≤ i → alternating a i n ≤ one
code_cap a i n h l = (own_inner a i n h l).cap
