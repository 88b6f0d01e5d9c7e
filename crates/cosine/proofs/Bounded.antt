-- The cosine's sum is not below -1, but for what its last terms leave: 1 + cos r is twice the square of cos (r / 2), as polynomials up to the power 62. Assumes nothing.
use Rattle.std.proofs.Common.{◌≡◌, ℕ, zero, suc, ◌+◌, ◌-◌, ◌*◌, ◌/◌, ◌^◌, ◌<◌, ◌≤◌, true, List, [], ◌∷◌, sym, refl, ap, ◌∙◌, subst, le_trans, mul-le-mul_right, arith, lit<, lit≤}
use native.Mathlib.Nat.{le_of_mul-le-mul_left}
use Rattle.elementary.specs.Fraction.{Whole}
use Rattle.elementary.specs.Series.{sum_over, even_factorial}
use Rattle.elementary.proofs.Chain.{under, over, minus_weight}
use Rattle.elementary.proofs.Sum.{under_is, sum_last}
use Rattle.cosine.specs.Cos.{one, alternating, steps}
use Rattle.cosine.proofs.Inner.{g, shrinks, own, own_budget}
use Rattle.cosine.proofs.Value.{Fall, sum_near}
use Rattle.cosine.proofs.Polynomials.{at, add, times, product, total, at_add, at_times, at_product, plus_most, square_above}

-- ---- Horner's rule as coefficients
unfoldable coefficients : (Ω i n : ℕ) → List ℕ
unfolding under times
coefficients Ω i zero = 1 ∷ []
coefficients Ω i (suc n) = (Ω * under g Ω (suc i) n) ∷ times (g i) (coefficients Ω (suc i) n)

module _ (a Ω : ℕ) (h : a ≤ 10 * Ω) where
  over_at : (i n : ℕ) → 1 ≤ i → over g true a Ω i n + (at a (coefficients Ω i n)).minus ≡ (at a (coefficients Ω i n)).plus
  unfolding over at coefficients
  over_at i zero l = omega arith
  over_at i (suc n) l =
      let p = coefficients Ω (suc i) n in
      go (Ω * under g Ω (suc i) n) (g i) (over g true a Ω (suc i) n) (at a p).plus (at a p).minus (at a (times (g i) p)).plus (at a (times (g i) p)).minus
      (minus_weight g a Ω 1 1 1 (shrinks a Ω h) i n l) (over_at (suc i) n (omega arith)) (at_times a (g i) p).0 (at_times a (g i) p).1
    where
      go : (u f o x y x' y' : ℕ) → 1 * (f * (a * o)) ≤ 1 * u → o + y ≡ x → x' ≡ f * x → y' ≡ f * y → u - f * (a * o) + a * x' ≡ u + a * y'
      go u f o x y x' y' k e s t = omega (arith, ap (λ (z : ℕ). f * (a * z)) e, ap (λ (z : ℕ). a * z) s, ap (λ (z : ℕ). a * z) t)

  sum_at : (n : ℕ) → (sum_over g true a Ω (suc n)).plus + (at a (coefficients Ω 0 (suc n))).minus ≡ (at a (coefficients Ω 0 (suc n))).plus + (sum_over g true a Ω (suc n)).minus
  unfolding at coefficients
  sum_at n =
      let p = coefficients Ω 1 n in
      go (sum_over g true a Ω (suc n)) (Ω * under g Ω 1 n) (g 0) (over g true a Ω 1 n) (at a p).plus (at a p).minus (at a (times (g 0) p)).plus (at a (times (g 0) p)).minus
      (sum_last g a Ω n (shrinks a Ω h)) (over_at 1 n (omega arith)) (at_times a (g 0) p).0 (at_times a (g 0) p).1
    where
      go : (v : Whole) (u f o x y x' y' : ℕ) → v.plus + f * (a * o) ≡ u + v.minus → o + y ≡ x → x' ≡ f * x → y' ≡ f * y → v.plus + a * x' ≡ u + a * y' + v.minus
      go v u f o x y x' y' k e s t = omega (arith, ap (λ (z : ℕ). f * (a * z)) e, ap (λ (z : ℕ). a * z) s, ap (λ (z : ℕ). a * z) t)

-- ---- the sums to the power 62 at r, and at r / 2, whose square is a quarter
unfoldable whole : List ℕ
unfolding coefficients even_factorial
whole = coefficients one 0 31

unfoldable half : List ℕ
unfolding coefficients even_factorial
half = coefficients (4 * one) 0 31

-- their denominators' quotient
unfoldable M : ℕ
unfolding under even_factorial
M = under g one 0 31

unfoldable K : ℕ
unfolding M
K = M * 16 ^ 31

-- the powers beyond 62 that the square has besides
unfoldable beyond : ℕ → List ℕ → List ℕ
beyond zero p = p
beyond (suc n) [] = []
beyond (suc n) (c ∷ p) = 0 ∷ beyond n p

unfoldable more : List ℕ
unfolding beyond times product half
more = beyond 32 (times 2 (product half half))

double : times 2 (product half half) ≡ add (times K (add (M ∷ []) whole)) more
unfolding K whole more add
double = refl

more_small : total (10 * one) more * one ≤ K * M
unfolding total more K
more_small = lit≤ tt

K-above : 0 < K
unfolding K
K-above = lit< tt

-- so the sum is at least -1, less a unit
module _ (a : ℕ) (h : a ≤ 10 * one) where
  abbrev e : Whole
  e = at a whole

  abbrev f : Whole
  f = at a half

  abbrev r : Whole
  r = at a more

  plus_same : 2 * (f.plus * f.plus + f.minus * f.minus) ≡ K * (M + e.plus) + r.plus
  unfolding at
  plus_same =
      let q = add (M ∷ []) whole in
      let z : (at a q).plus ≡ M + e.plus = omega (arith, (at_add a (M ∷ []) whole).0) in
      sym ((at_times a 2 (product half half)).0 ∙ ap (λ (z : ℕ). 2 * z) (at_product a half half).0) ∙ ap (λ (l : List ℕ). (at a l).plus) double
      ∙ (at_add a (times K q) more).0 ∙ ap (λ (z : ℕ). z + r.plus) ((at_times a K q).0 ∙ ap (λ (z : ℕ). K * z) z)

  minus_same : 2 * (f.plus * f.minus + f.minus * f.plus) ≡ K * e.minus + r.minus
  unfolding at
  minus_same =
      let q = add (M ∷ []) whole in
      let z : (at a q).minus ≡ e.minus = omega (arith, (at_add a (M ∷ []) whole).1) in
      sym ((at_times a 2 (product half half)).1 ∙ ap (λ (z : ℕ). 2 * z) (at_product a half half).1) ∙ ap (λ (l : List ℕ). (at a l).minus) double
      ∙ (at_add a (times K q) more).1 ∙ ap (λ (z : ℕ). z + r.minus) ((at_times a K q).1 ∙ ap (λ (z : ℕ). K * z) z)

  -- the square of f is at least 0, and r is less than a unit
  least : e.minus * one ≤ M * one + e.plus * one + M
  least =
      le_of_mul-le-mul_left {k = K}
      (go K M e.plus e.minus f.plus f.minus r.plus r.minus plus_same minus_same (square_above f.plus f.minus) (le_trans (mul-le-mul_right one (plus_most a (10 * one) more h)) more_small)) K-above
    where
      go : (k m x y p q s t : ℕ) → 2 * (p * p + q * q) ≡ k * (m + x) + s → 2 * (p * q + q * p) ≡ k * y + t → 2 * (p * q) ≤ p * p + q * q → s * one ≤ k * m → k * (y * one) ≤ k * (m * one + x * one + m)
      go k m x y p q s t a b c d = omega arith

  not_below : let v = sum_over g true a one 31 in v.minus * one ≤ v.plus * one + M * one + M
  unfolding whole
  not_below = go (sum_over g true a one 31) e (sum_at a one h steps) least
    where
      go : (v w : Whole) → v.plus + w.minus ≡ w.plus + v.minus → w.minus * one ≤ M * one + w.plus * one + M → v.minus * one ≤ v.plus * one + M * one + M
      go v w x y = omega arith

  -- and so the code's fall is at most 2, and 38 units
  pub fall_most : a * alternating a 1 steps / (one * 2) ≤ 2 * one + 38
  unfolding M
  fall_most = go (sum_over g true a one 31) M (a * alternating a 1 steps / (one * 2)) not_below (subst (λ (m : ℕ). Fall 37 (a * alternating a 1 steps / (one * 2)) (record { over = sum_over g true a one 31; under = m })) (sym (under_is g one 31)) (sum_near 0 7 37 a one a steps (lit≤ tt) own_budget (own a h) (lit≤ tt)))
    where
      go : (v : Whole) (m q : ℕ) → v.minus * one ≤ v.plus * one + m * one + m → Fall 37 q (record { over = v; under = m }) → q ≤ 2 * one + 38
      go v m q x n = le_of_mul-le-mul_left {k = m} (omega (arith, n.hi)) n.above
