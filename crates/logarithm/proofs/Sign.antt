-- Whether x is below 1, by its field and its part: for a number a / d = μ / 2 ^ 53 * 2 ^ (F - 1023). Assumes nothing.
use mathlib.Core.Path.{◌≡◌, sym, ap, ◌∙◌}
use mathlib.Core.Bool.{true, false}
use Prim.Native.Nat.{ℕ, suc, ◌-◌, ◌*◌, ◌^◌, ◌≤◌, ◌<◌}
use native.Mathlib.Nat.{le_trans, le_of_eq, lt_of_not-le, mul-le-mul_left, mul-le-mul_right, mul-lt-mul_of_pos_right, le_of_mul-le-mul_right, lt_of_mul-lt-mul_right, eq_of_mul-eq-mul_right, pow-succ'}
use native.Mathlib.Decide.{dec_le}
use native.Mathlib.Omega.{arith}
use borrow.Author.Tests.{lt-ltb, le-ltb}
use lib.Dec.{T, ltb}
use lib.Pow.{pow_pos, pow_mono}
use lib.Ieee.{Float, nan, inf, fin, up, down, lt, of_bits}
use lib.Ieee.Positive.{num, den, positive}
use Rattle.number.specs.F64.{1f}
use Rattle.logarithm.proofs.Pattern.{W}
use Rattle.logarithm.proofs.Difference.{gap}

one : (a : ℕ) → a * 1 ≡ a
one a = omega arith

ones : (a : ℕ) → 1 * 1 * a ≡ a
ones a = omega arith

-- the tests, in fractions
pub below_is : (x : Float) → T (positive x) → lt x 1f ≡ ltb (num x) (den x)
unfolding lt of_bits
below_is nan p = absurd p
below_is (inf s) p = absurd p
below_is (fin true n k) p = absurd p
below_is (fin false n k) p = ap (λ (z : ℕ). ltb z (1 * 1 * down k)) (one (n * up k)) ∙ ap (λ (z : ℕ). ltb (n * up k) z) (ones (down k))

pub above_is : (x : Float) → T (positive x) → lt 1f x ≡ ltb (den x) (num x)
unfolding lt of_bits
above_is nan p = absurd p
above_is (inf s) p = absurd p
above_is (fin true n k) p = absurd p
above_is (fin false n k) p = ap (λ (z : ℕ). ltb (1 * 1 * down k) z) (one (n * up k)) ∙ ap (λ (z : ℕ). ltb z (n * up k)) (ones (down k))

-- two tests of numbers that stand alike
alike : (a d μ w : ℕ) → (w ≤ μ → d ≤ a) → (μ < w → a < d) → ltb μ w ≡ ltb a d
alike a d μ w f g = go (dec_le w μ)
  where
    go : Dec (w ≤ μ) → ltb μ w ≡ ltb a d
    go (yes h) = le-ltb μ w h ∙ sym (le-ltb a d (f h))
    go (no n) = let h = lt_of_not-le n in lt-ltb μ w h ∙ sym (lt-ltb a d (g h))

module _ (a d μ F : ℕ) (D : 0 < d) (e : a * (W * 2 ^ 1022) ≡ μ * 2 ^ (F - 1) * d) (l : 3 * W ≤ 4 * μ) (h : 2 * μ < 3 * W) where
  -- P = 2 ^ (F - 1) and T = 2 ^ 1022
  from : (P T : ℕ) → 0 < T → a * (W * T) ≡ μ * P * d → W * T ≤ μ * P → d ≤ a
  from P T t e k = le_of_mul-le-mul_right {k = W * T} (let z : W * T * d ≤ μ * P * d = mul-le-mul_right d k in omega arith) (omega arith)

  under : (P T : ℕ) → a * (W * T) ≡ μ * P * d → μ * P < W * T → a < d
  under P T e k = lt_of_mul-lt-mul_right (W * T) (let z : μ * P * d < W * T * d = mul-lt-mul_of_pos_right k D in omega arith)

  large : (P T : ℕ) → 2 * T ≤ P → W * T ≤ μ * P
  large P T k = omega (arith, mul-le-mul_left μ k, mul-le-mul_right T l)

  small : (P T : ℕ) → 0 < T → 2 * P ≤ T → μ * P < W * T
  small P T t k = omega (arith, mul-le-mul_left μ k, mul-lt-mul_of_pos_right h t)

  pub by_field : 1 ≤ gap F 1023 → ltb F 1023 ≡ ltb a d
  by_field g =
      alike a d F 1023 (λ (k : 1023 ≤ F). from (2 ^ (F - 1)) (2 ^ 1022) (pow_pos 1022) e (large (2 ^ (F - 1)) (2 ^ 1022) (pow_mono {i = 1023} {j = F - 1} (omega arith))))
      (λ (k : F < 1023). under (2 ^ (F - 1)) (2 ^ 1022) e (small (2 ^ (F - 1)) (2 ^ 1022) (pow_pos 1022) (le_trans (le_of_eq (sym (pow-succ' 2 (F - 1)))) (pow_mono {i = suc (F - 1)} {j = 1022} (omega arith)))))

  pub by_part : F ≡ 1023 → ltb μ W ≡ ltb a d
  by_part g =
      let e' : a * (W * 2 ^ 1022) ≡ μ * 2 ^ 1022 * d = e ∙ ap (λ (z : ℕ). μ * 2 ^ (z - 1) * d) g in
      alike a d μ W (λ k. from (2 ^ 1022) (2 ^ 1022) (pow_pos 1022) e' (mul-le-mul_right (2 ^ 1022) k)) (λ k. under (2 ^ 1022) (2 ^ 1022) e' (mul-lt-mul_of_pos_right k (pow_pos 1022)))

  -- x is 1
  pub equal : F ≡ 1023 → gap μ W ≡ 0 → a ≡ d
  equal g z = same (2 ^ 1022) (pow_pos 1022) (e ∙ ap (λ (z : ℕ). μ * 2 ^ (z - 1) * d) g)
    where
      same : (T : ℕ) → 0 < T → a * (W * T) ≡ μ * T * d → a ≡ d
      same T t e =
          let m : μ ≡ W = omega arith in
          let k : μ * (T * d) ≡ W * (T * d) = ap (λ (z : ℕ). z * (T * d)) m in
          eq_of_mul-eq-mul_right (W * T) (omega arith) a d (omega arith)
