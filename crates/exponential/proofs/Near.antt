-- The answer inside the range is within ten factors of 1 + 2 ^ -53 of the exact value: five for the polynomial in floats, five for its argument and the terms left out. Assumes nothing.
use Rattle.std.proofs.Common.{◌≡◌, ℕ, zero, suc, ◌+◌, ◌-◌, ◌*◌, ◌^◌, ◌<◌, ◌≤◌, Bool, true, false, not, T, ltb, ◌⊎◌, sym, refl, ap, ◌∙◌, subst, inl, inr, le_trans, le_of_eq, le_of_lt, le_antisymm, mul-le-mul_left, mul-pos, lt_of_not-le, sub-add_cancel, arith, lit<, lit≤, pow_pos, pow_mono, pow-add, le-ltb, lt-ltb}
use native.Mathlib.Decide.{dec_le}
use lib.Ieee.{Float, binary64, fits, unlike}
use lib.Ieee.Fits.{add-fits}
use Rattle.number.specs.F64.{◌⊗◌, ◌‼◌}
use Rattle.elementary.specs.Exact.{ten40, L40}
use Rattle.elementary.specs.Series.{factorial}
use Rattle.elementary.specs.Horner.{horner}
use Rattle.elementary.proofs.Ratio.{ratio_mul, ratio_refl}
use Rattle.elementary.proofs.Rounding.{Close, close_near, close_to, close_of_value, close_more, ordinary_near}
use Rattle.elementary.proofs.Scaling.{scale_close}
use Rattle.elementary.proofs.Chain.{under, over, under_pos, plus_most, minus_most}
use Rattle.elementary.proofs.FloatChain.{turned}
use Rattle.exponential.specs.Exp.{multiples, power_of_two, coefficients, inside_of, sum_at, last}
use Rattle.exponential.proofs.Guess.{Nearest}
use Rattle.exponential.proofs.Scaled.{U, Units}
use Rattle.exponential.proofs.Cases.{without_rest, with_rest}
use Rattle.exponential.proofs.Reduced.{gap, Near, turned as turned_by, near, scale_pos}
use Rattle.exponential.proofs.Rests.{exact_small, code_small}
use Rattle.exponential.proofs.Lipschitz.{factorial_pos, shrinks}
use Rattle.exponential.proofs.Sums.{sum_least, sum_pos, sums}
use Rattle.exponential.proofs.Value.{times_power}
use Rattle.exponential.proofs.Powers.{field, power_value, sized, rest_is}
use Rattle.exponential.proofs.Rounded.{sum_close}

-- the sum is at most 20/13
sum_most : (s : Bool) (ω Ω n : ℕ) → 20 * ω ≤ 7 * Ω → 13 * over factorial s ω Ω 0 n ≤ 20 * under factorial Ω 0 n
unfolding factorial
sum_most false ω Ω n small = let h = plus_most factorial ω Ω 7 20 13 (lit< tt) refl 0 (shrinks ω Ω small) n in omega arith
sum_most true ω Ω n small = let h = minus_most factorial ω Ω 0 n in omega arith

-- at 0 it is 1
sum_at_zero : (s : Bool) (Ω n : ℕ) → over factorial s 0 Ω 0 n ≡ under factorial Ω 0 n
unfolding over under factorial
sum_at_zero s Ω zero = refl
sum_at_zero false Ω (suc n) = omega arith
sum_at_zero true Ω (suc n) = omega arith

sum_fits : (r : Float) → T (fits binary64 (sum_at r))
unfolding horner
sum_fits r = add-fits binary64 (coefficients ‼ 0) (r ⊗ horner (λ (j : ℕ). coefficients ‼ j) r 1 (last - 1))

-- ---- times 2 ^ k, which is exact
module _ (s t : Bool) (k R : ℕ) (least : 2 ≤ field t k) (most : field t k ≤ 2046) (small : 20 * R ≤ 7 * U) where
  abbrev o : ℕ
  o = over factorial s R U 0 last

  abbrev w : ℕ
  w = under factorial U 0 last

  abbrev q : ℕ
  q = 2 ^ field t k

  w⁺ : 0 < w
  w⁺ = under_pos factorial U factorial_pos (lit< tt) 0 last

  scaled : 1 ≤ R → Close 5 (sum_at (turned s (sized R)) ⊗ power_of_two t k) (o * q) (w * 2 ^ 1023)
  scaled R⁺ =
      let c = sum_close s R R⁺ small in
      scale_close (power_of_two t k) (field t k) c (sum_fits (turned s (sized R))) (power_value t k (omega arith) most)
      (ordinary_near {a = o * q} {c = w * 2 ^ 1023} 100 101 (mul-pos (sum_pos s R U last small (lit< tt)) (pow_pos (field t k))) (mul-pos w⁺ (pow_pos 1023)) (lit< tt) (lit≤ tt) (ratio_mul c.ratio (ratio_refl q (2 ^ 1023)))
      (not_less o w q (2 ^ 1022) (sum_least s R U last small) (pow_mono {i = 2} {j = field t k} least))
      (not_more o w q (2 ^ 1023) (sum_most s R U last small) (le_trans (pow_mono {i = field t k} {j = 1023 + 1023} most) (le_of_eq (pow-add 2 1023 1023)))))
    where
      not_less : (o w q p : ℕ) → 13 * w ≤ 20 * o → 4 ≤ q → w * (2 * p) * 101 ≤ o * q * p * 100
      not_less o w q p h l = omega (arith, mul-le-mul_left p h, mul-le-mul_left (o * p) l)

      not_more : (o w q p : ℕ) → 13 * o ≤ 20 * w → q ≤ p * p → 4 * (o * q) * 101 ≤ 7 * (w * p * p) * 100
      not_more o w q p h l = omega (arith, mul-le-mul_left o l, mul-le-mul_left (p * p) h)

  alone : R ≡ 0 → Close 5 (power_of_two t k) (o * q) (w * 2 ^ 1023)
  alone e =
      close_more (lit≤ tt) (close_to (o * q) (w * 2 ^ 1023) (mul-pos w⁺ (pow_pos 1023)) (turn (ap (λ (z : ℕ). over factorial s z U 0 last) e ∙ sum_at_zero s U last)) (close_of_value (power_of_two t k) q (2 ^ 1023) (pow_pos (field t k)) (power_value t k (omega arith) most)))
    where
      turn : o ≡ w → q * (w * 2 ^ 1023) ≡ o * q * 2 ^ 1023
      turn e = rw e (go w q (2 ^ 1023))
        where
          go : (w q p : ℕ) → q * (w * p) ≡ w * q * p
          go w q p = omega arith

-- ---- the answer
module _ (t : Bool) (a b X k : ℕ) (u : Units a b X) (n : Nearest X k) (least : 2 ≤ field t k) where
  abbrev M : ℕ
  M = multiples (2 * k)

  abbrev A : ℕ
  A = a * ten40

  abbrev K : ℕ
  K = k * L40 * b

  abbrev s : Bool
  s = unlike (ltb A K) t

  most : field t k ≤ 2046
  most = go t
    where
      go : (t : Bool) → field t k ≤ 2046
      go false = omega (arith, n.0)
      go true = omega arith

  Ω⁺ : 0 < b * ten40
  Ω⁺ = mul-pos u.under scale_pos

  rests : Near X M A K (b * ten40)
  rests = near a b X k u n

  small : 20 * gap X M ≤ 7 * U
  small = code_small a b k X M Ω⁺ (turned_by a b X k u n) rests

  -- where there is a rest, its sign is the exact one
  same_sign : (X < M) ⊎ (M < X) → unlike (ltb X M) t ≡ s
  same_sign (inl h) = ap (λ (z : Bool). unlike z t) (lt-ltb X M h ∙ sym (lt-ltb A K (rests.less h)))
  same_sign (inr h) = ap (λ (z : Bool). unlike z t) (le-ltb X M (le_of_lt h) ∙ sym (le-ltb A K (le_of_lt (rests.more h))))

  abbrev Wanted : Float → Type 0
  Wanted y = Close 5 y (over factorial s (gap X M) U 0 last * 2 ^ field t k) (under factorial U 0 last * 2 ^ 1023)

  in_floats : Wanted (inside_of t X k)
  in_floats = go (dec_le X M) (dec_le M X)
    where
      some : (X < M) ⊎ (M < X) → (X ≡ M → ⊥) → 1 ≤ gap X M → Wanted (inside_of t X k)
      some h d g = subst Wanted (sym (with_rest t X k d ∙ ap (λ (r : Float). sum_at r ⊗ power_of_two t k) (rest_is t X M ∙ ap (λ (z : Bool). turned z (sized (gap X M))) (same_sign h)))) (scaled s t k (gap X M) least most small g)

      go : Dec (X ≤ M) → Dec (M ≤ X) → Wanted (inside_of t X k)
      go (yes l) (yes h) = subst Wanted (sym (without_rest t X k (le_antisymm l h))) (alone s t k (gap X M) least most small (omega arith))
      go (no l) h = let g = lt_of_not-le l in some (inr g) (λ e. omega arith) (omega arith)
      go (yes l) (no h) = let g = lt_of_not-le h in some (inl g) (λ e. omega arith) (omega arith)

  abbrev o₃₁ : ℕ
  o₃₁ = over factorial s (gap A K) (b * ten40) 0 31

  abbrev w₃₁ : ℕ
  w₃₁ = under factorial (b * ten40) 0 31

  w₃₁⁺ : 0 < w₃₁
  w₃₁⁺ = under_pos factorial (b * ten40) factorial_pos Ω⁺ 0 31

  exact : Close 10 (inside_of t X k) (o₃₁ * 2 ^ field t k) (w₃₁ * 2 ^ 1023)
  exact = close_near (mul-pos w₃₁⁺ (pow_pos 1023)) in_floats (ratio_mul (sums s (gap X M) (gap A K) (b * ten40) Ω⁺ rests.hi rests.lo small (exact_small a b k (turned_by a b X k u n))) (ratio_refl (2 ^ field t k) (2 ^ 1023)))

  pub answer_close : Close 10 (inside_of t X k) (times_power t k o₃₁) (times_power (not t) k w₃₁)
  answer_close = close_to (times_power t k o₃₁) (times_power (not t) k w₃₁) (above (not t)) (cross t) exact
    where
      above : (t : Bool) → 0 < times_power t k w₃₁
      above false = mul-pos (pow_pos k) w₃₁⁺
      above true = w₃₁⁺

      cross : (t : Bool) → o₃₁ * 2 ^ field t k * times_power (not t) k w₃₁ ≡ times_power t k o₃₁ * (w₃₁ * 2 ^ 1023)
      cross false = ap (λ (z : ℕ). o₃₁ * z * w₃₁) (pow-add 2 1023 k) ∙ turn o₃₁ (2 ^ 1023) (2 ^ k) w₃₁
        where
          turn : (o p q w : ℕ) → o * (p * q) * w ≡ q * o * (w * p)
          turn o p q w = omega arith
      cross true = turn o₃₁ (2 ^ (1023 - k)) (2 ^ k) w₃₁ ∙ ap (λ (z : ℕ). o₃₁ * (w₃₁ * z)) (sym (pow-add 2 (1023 - k) k) ∙ ap (λ (z : ℕ). 2 ^ z) (sub-add_cancel {n = 1023} {m = k} n.0))
        where
          turn : (o p q w : ℕ) → o * p * (q * w) ≡ o * (w * (p * q))
          turn o p q w = omega arith
