-- The definition's value, and how far the code's sum is from it: 174 units. Assumes nothing.
use Rattle.std.proofs.Common.{◌≡◌, ℕ, zero, suc, ◌+◌, ◌*◌, ◌/◌, ◌^◌, ◌<◌, ◌≤◌, Bool, true, false, ◌&&◌, sym, refl, ap, ◌∙◌, subst, le_of_lt, mul-pos, one-mul, zero-mul, div-mul-le_self, arith, lit<, lit≤}
use native.Mathlib.Nat.{pow-succ', lt-div-mul-add}
use lib.Ieee.{Float}
use lib.Ieee.Positive.{num, den}
use Rattle.elementary.specs.Fraction.{Whole, Fraction, signed, size, negative, scaled, ◌×ʷ◌, ◌+ʷ◌, ◌−ʷ◌, ◌×ᶠ◌, whole}
use Rattle.elementary.specs.Series.{series, product, sum_under, sum_over, even_factorial, factorial, odd}
use Rattle.elementary.specs.Band.{sign_of}
use Rattle.elementary.specs.Exact.{ten40, P40, cos_turns, cos_rest, cos_value}
use Rattle.elementary.proofs.Chain.{under, over}
use Rattle.elementary.proofs.Sum.{under_is, sum_last}
use Rattle.elementary.proofs.Sizes.{Same, size_same, size_signed, is_negative, not_negative, minus_square_lem}
use Rattle.cosine.specs.Cos.{one, units_of, gap, rest_of, alternating, fall_of, steps}
use Rattle.cosine.proofs.Steps.{Square, square_of, Near, Budget, last_step}
use Rattle.cosine.proofs.Inner.{g, shrinks, inner}
use Rattle.cosine.proofs.Reduced.{D, D⁺, ρ, angle}

-- ---- the definition's parts
rest_size : (x : Float) → size (cos_rest x).over ≡ gap (num x * ten40) (cos_turns x * (2 * (den x * P40)))
unfolding cos_rest
rest_size x = go (sign_of x) (num x) (den x) (cos_turns x) ten40 P40
  where
    go : (s : Bool) (a d k l p : ℕ) → size (scaled (signed s a) (1 * 1 * l) −ʷ scaled (signed false 2 ×ʷ signed s k ×ʷ signed false p) d) ≡ gap (a * l) (k * (2 * (d * p)))
    go false a d k l p = omega arith
    go true a d k l p = omega arith

-- at ω = 0 no term has a sign
no_sign : (f : ℕ → ℕ) (Ω n : ℕ) → sum_over f false 0 Ω n ≡ sum_over f true 0 Ω n
unfolding sum_over
no_sign f Ω zero = refl
no_sign f Ω (suc n) = rw (no_sign f Ω n, pow-succ' 0 n, zero-mul (0 ^ n), zero-mul (product f n)) (go (odd (suc n)))
  where
    go : (b : Bool) → scaled (sum_over f true 0 Ω n) (f (suc n) * Ω) +ʷ signed false 0 ≡ scaled (sum_over f true 0 Ω n) (f (suc n) * Ω) +ʷ signed (true && b) 0
    go true = refl
    go false = refl

-- the sum at minus a square
abbrev minus_square : Whole → Whole
minus_square w = signed true 1 ×ʷ (w ×ʷ w)

at_square : (f : ℕ → ℕ) (w : Whole) (Ω n : ℕ) → sum_over f (negative (minus_square w)) (size (minus_square w)) Ω n ≡ sum_over f true (size w * size w) Ω n
at_square f w Ω n = ap (λ (z : ℕ). sum_over f (negative (minus_square w)) z Ω n) (size_same (minus_square w) (signed true (size w * size w)) (minus_square_lem w) ∙ size_signed true (size w * size w)) ∙ go (size w * size w) (minus_square_lem w)
  where
    go : (q : ℕ) → Same (minus_square w) (signed true q) → sum_over f (negative (minus_square w)) q Ω n ≡ sum_over f true q Ω n
    go zero e = ap (λ (b : Bool). sum_over f b 0 Ω n) (not_negative (minus_square w) 0 e) ∙ no_sign f Ω n
    go (suc q) e = ap (λ (b : Bool). sum_over f b (suc q) Ω n) (is_negative (minus_square w) (suc q) (omega arith) e)

-- the series at minus the square of a fraction
series_is : (r : Fraction) (p q : ℕ) → size r.over ≡ p → r.under ≡ q → series g (whole true 1 ×ᶠ (r ×ᶠ r)) 31 ≡ record { over = sum_over g true (p * p) (q * q) 31; under = sum_under g (q * q) 31 }
series_is r p q e f =
    rw (at_square g r.over (1 * (r.under * r.under)) 31, e, f, one-mul (q * q)) refl

value_opened : (x : Float) → cos_value x ≡ series g (whole true 1 ×ᶠ (cos_rest x ×ᶠ cos_rest x)) 31
unfolding cos_value
value_opened x = refl

rest_under : (x : Float) → (cos_rest x).under ≡ den x * ten40
unfolding cos_rest
rest_under x = go (den x) ten40
  where
    go : (d l : ℕ) → d * (1 * 1 * l) ≡ d * l
    go d l = omega arith

g_first : g 0 ≡ 1
unfolding even_factorial factorial
g_first = refl

g_second : g 1 ≡ 2
unfolding even_factorial factorial
g_second = refl

pub fall_is : (r : ℕ) → fall_of r ≡ r * r / one * alternating (r * r / one) 1 steps / (one * 2)
unfolding fall_of
fall_is r = refl

-- the square within 24 units and the inner part within 32
budget : Budget 24 32 one
budget = record { cross = lit≤ tt; room = lit≤ tt }

-- 1 less q units is within t units of a value
pub record Fall (t q : ℕ) (v : Fraction) : Type 0 where
  pub hi : v.over.plus * one + q * v.under ≤ v.under * one + v.over.minus * one + t * v.under
  pub lo : v.under * one + v.over.minus * one ≤ v.over.plus * one + q * v.under + t * v.under
  pub above : 0 < v.under

-- the code's sum, where its square is near the exact one
module _ (s e t A Ω ω n : ℕ) (Ω⁺ : 1 ≤ Ω) (b : Budget s e one) (a : Square s one A Ω ω) (room : 10 * e + s + 3 ≤ 2 * t) where
  abbrev o : ℕ
  o = over g true ω Ω 1 n

  abbrev u : ℕ
  u = under g Ω 1 n

  abbrev q : ℕ
  q = A * alternating A 1 n / (one * 2)

  inner_near : Near e one (alternating A 1 n) (2 * o) u
  inner_near = subst (λ (z : ℕ). Near e one (alternating A 1 n) (z * o) u) g_second (inner s e A Ω ω Ω⁺ b a 1 n (omega arith))

  product_near : (q * (u * (2 * Ω)) ≤ ω * (2 * o) * one + t * (u * (2 * Ω))) × (ω * (2 * o) * one ≤ q * (u * (2 * Ω)) + t * (u * (2 * Ω)))
  product_near =
      last_step s e t one A Ω ω (alternating A 1 n) (2 * o) u q (lit≤ tt) Ω⁺ b a inner_near room (div-mul-le_self (A * alternating A 1 n) (one * 2)) (le_of_lt (lt-div-mul-add {a = A * alternating A 1 n} {b = one * 2} (lit< tt)))

  under_first : sum_under g Ω (suc n) ≡ Ω * u
  unfolding under
  under_first = sym (under_is g Ω (suc n)) ∙ ap (λ (z : ℕ). z * (Ω * u)) g_first ∙ one-mul (Ω * u)

  pub sum_near : Fall t q (record { over = sum_over g true ω Ω (suc n); under = sum_under g Ω (suc n) })
  sum_near =
      subst (λ (e : ℕ). Fall t q (record { over = sum_over g true ω Ω (suc n); under = e })) (sym under_first)
      (go (sum_over g true ω Ω (suc n)) q u o (subst (λ (f : ℕ). (sum_over g true ω Ω (suc n)).plus + f * (ω * o) ≡ Ω * u + (sum_over g true ω Ω (suc n)).minus) g_first (sum_last g ω Ω n (shrinks ω Ω a.most))) product_near.0 product_near.1
      (mul-pos Ω⁺ inner_near.pos))
    where
      go : (v : Whole) (q u o : ℕ) → v.plus + 1 * (ω * o) ≡ Ω * u + v.minus → q * (u * (2 * Ω)) ≤ ω * (2 * o) * one + t * (u * (2 * Ω)) → ω * (2 * o) * one ≤ q * (u * (2 * Ω)) + t * (u * (2 * Ω))
          → 0 < Ω * u → Fall t q (record { over = v; under = Ω * u })
      go v q u o k h l p = record { hi = omega arith; lo = omega arith; above = p }

-- and so it is for a float up to 2 ^ 20 in size
module _ (x : Float) (within : num x ≤ 2 ^ 20 * den x) where
  abbrev r : ℕ
  r = rest_of (units_of x)

  square : Square 24 one (r * r / one) (D x within * D x within) (ρ x within * ρ x within)
  square = square_of one r (D x within) (ρ x within) (r * r / one) (lit≤ tt) (angle x within) (div-mul-le_self (r * r) one) (le_of_lt (lt-div-mul-add {a = r * r} {b = one} (lit< tt)))

  value_is : cos_value x ≡ record { over = sum_over g true (ρ x within * ρ x within) (D x within * D x within) 31; under = sum_under g (D x within * D x within) 31 }
  value_is = value_opened x ∙ series_is (cos_rest x) (ρ x within) (D x within) (rest_size x) (rest_under x)

  pub fall : Fall 174 (fall_of r) (cos_value x)
  fall =
      subst (λ (v : Fraction). Fall 174 (fall_of r) v) (sym value_is)
      (subst (λ (q : ℕ). Fall 174 q (record { over = sum_over g true (ρ x within * ρ x within) (D x within * D x within) 31; under = sum_under g (D x within * D x within) 31 })) (sym (fall_is r))
      (sum_near 24 32 174 (r * r / one) (D x within * D x within) (ρ x within * ρ x within) steps (mul-pos (D⁺ x within) (D⁺ x within)) budget square (lit≤ tt)))
