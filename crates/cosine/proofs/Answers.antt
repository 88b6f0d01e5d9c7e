-- The float that is the answer: the code's units over 2 ^ 59 within 128 units, and so within 2 ^ -44 of the value. Assumes nothing.
use Rattle.std.proofs.Common.{◌≡◌, ℕ, ◌+◌, ◌-◌, ◌*◌, ◌/◌, ◌^◌, ◌<◌, ◌≤◌, Bool, true, false, cond, T, ltb, sym, refl, ap, subst, true≢false, le_trans, lt_of_lt_of_le, mul-le-mul_right, mul_assoc, mul-le-mul, mul-le-mul_left, mul-lt-mul_of_pos_right, div-mul-le_self, arith, lit<, lit≤, pow_pos, pow_mono, ltb-false, ltb-true}
use native.Mathlib.Nat.{le_of_mul-le-mul_left}
use lib.Ieee.{Float, nan, inf, fin, binary64, round, neg, up, down}
use lib.Ieee.Exact.{HasValue, round_exact}
use Rattle.number.specs.Range.{finite}
use Rattle.elementary.specs.Fraction.{Fraction, signed}
use Rattle.elementary.specs.Band.{value_of, Within}
use Rattle.cosine.specs.Cos.{one, gap, alternating, fall_of, float_of, one_less, steps}
use Rattle.cosine.proofs.Inner.{code_cap}
use Rattle.cosine.proofs.Exact.{gap_mul}
use Rattle.cosine.proofs.Value.{Fall, fall_is}

-- ---- a number of units, as a float
pub float_value : (n : ℕ) → n + 128 < 2 ^ 61 → HasValue (float_of n) false ((n + 128) / 256) (2 ^ 51)
unfolding float_of
float_value n h = go ((n + 128) / 256) (omega arith)
  where
    go : (m : ℕ) → m < 2 ^ 53 → HasValue (round binary64 false m (2 ^ 51)) false m (2 ^ 51)
    go m k =
        round_exact binary64 false m (2 ^ 51) m 1023 (pow_pos 51) k
        (lt_of_lt_of_le (mul-lt-mul_of_pos_right k (pow_pos 1023)) (le_trans (lit≤ tt) (pow_mono {i = 1076} {j = 2098} (lit≤ tt)))) (sym (mul_assoc m (2 ^ 1023) (2 ^ 51)))

-- ---- its distance from the value
-- |p - m| * t is at most b
size_most : (p m t b : ℕ) → p * t ≤ m * t + b → m * t ≤ p * t + b → gap p m * t ≤ b
size_most p m t b h k = subst (λ (z : ℕ). z ≤ b) (sym (gap_mul p m t)) (go (p * t) (m * t) h k)
  where
    go : (x y : ℕ) → x ≤ y + b → y ≤ x + b → gap x y ≤ b
    go x y h k = omega arith

-- p / d is n multiples of 2 ^ -51, which are a units within 128, and 1 less q units is near v
module _ (p d n a q : ℕ) (v : Fraction) (is : p * 2 ^ 51 ≡ n * d) (lo : 256 * n ≤ a + 128) (hi : a ≤ 256 * n + 128) (near : Fall 174 q v) where
  abbrev E : ℕ
  E = v.under

  facts : (256 * n * (d * E) ≤ (a + 128) * (d * E)) × (a * (d * E) ≤ (256 * n + 128) * (d * E)) × (p * 2 ^ 51 * E ≡ n * d * E)
  facts = (mul-le-mul_right (d * E) lo, mul-le-mul_right (d * E) hi, ap (λ (z : ℕ). z * E) is)

  above_zero : q + a ≡ one → Within 44 (record { over = signed false p; under = d }) v
  above_zero e =
      let f = facts in
      let g : (q + a) * (d * E) ≡ one * (d * E) = ap (λ (z : ℕ). z * (d * E)) e in
      let h = mul-le-mul_right d near.hi in
      let k = mul-le-mul_right d near.lo in
      size_most (p * E + v.over.minus * d) (0 * E + v.over.plus * d) (2 ^ 44) (d * E) (le_of_mul-le-mul_left {k = 32768} (omega arith) (lit< tt)) (le_of_mul-le-mul_left {k = 32768} (omega arith) (lit< tt))

  below_zero : one + a ≡ q → Within 44 (record { over = signed true p; under = d }) v
  below_zero e =
      let f = facts in
      let g : (one + a) * (d * E) ≡ q * (d * E) = ap (λ (z : ℕ). z * (d * E)) e in
      let h = mul-le-mul_right d near.hi in
      let k = mul-le-mul_right d near.lo in
      size_most (0 * E + v.over.minus * d) (p * E + v.over.plus * d) (2 ^ 44) (d * E) (le_of_mul-le-mul_left {k = 32768} (omega arith) (lit< tt)) (le_of_mul-le-mul_left {k = 32768} (omega arith) (lit< tt))

-- ---- 1 less q units, for a q below 5
-- the code's square is below 10, since the angle is at most 3.15
pub square_most : (r : ℕ) → 20 * r ≤ 63 * one → 400 * (r * r / one) ≤ 3969 * one
square_most r h = go one r (r * r / one) (lit≤ tt) h (div-mul-le_self (r * r) one)
  where
    go : (U r a : ℕ) → 1 ≤ U → 20 * r ≤ 63 * U → a * U ≤ r * r → 400 * a ≤ 3969 * U
    go U r a U⁺ h k = le_of_mul-le-mul_left {k = U} (omega (arith, mul-le-mul h h)) U⁺

-- and half of its product with the inner part is below 5
pub half_most : (a p : ℕ) → 400 * a ≤ 3969 * one → p ≤ one → 800 * (a * p / (one * 2)) ≤ 3969 * one
half_most a p h k = go one a p (a * p / (one * 2)) (lit≤ tt) h k (div-mul-le_self (a * p) (one * 2))
  where
    go : (U a p q : ℕ) → 1 ≤ U → 400 * a ≤ 3969 * U → p ≤ U → q * (U * 2) ≤ a * p → 800 * q ≤ 3969 * U
    go U a p q U⁺ h k l = le_of_mul-le-mul_left {k = U} (omega (arith, mul-le-mul_right U h, mul-le-mul_left a k)) U⁺

pub fall_small : (r : ℕ) → 20 * r ≤ 63 * one → 800 * fall_of r ≤ 3969 * one
fall_small r h =
    let a = r * r / one in
    let s = square_most r h in
    subst (λ (z : ℕ). 800 * z ≤ 3969 * one) (sym (fall_is r)) (half_most a (alternating a 1 steps) s (code_cap a 1 steps (omega arith) (lit≤ tt)))

pub near_one_less : (q : ℕ) (v : Fraction) → 800 * q ≤ 3969 * one → Fall 174 q v → T (finite (one_less q)) × Within 44 (value_of (one_less q)) v
unfolding one_less neg
near_one_less q v h f = go (ltb one q) refl
  where
    number : (z : Float) (n a : ℕ) → HasValue z false n (2 ^ 51) → 256 * n ≤ a + 128 → a ≤ 256 * n + 128 → q + a ≡ one → T (finite z) × Within 44 (value_of z) v
    number nan n a k lo hi e = absurd k
    number (inf s) n a k lo hi e = absurd k
    number (fin true m x) n a k lo hi e = absurd (true≢false k.0)
    number (fin false m x) n a k lo hi e = (tt, above_zero (m * up x) (down x) n a q v k.1 lo hi f e)

    minus : (z : Float) (n a : ℕ) → HasValue z false n (2 ^ 51) → 256 * n ≤ a + 128 → a ≤ 256 * n + 128 → one + a ≡ q → T (finite (neg z)) × Within 44 (value_of (neg z)) v
    minus nan n a k lo hi e = absurd k
    minus (inf s) n a k lo hi e = absurd k
    minus (fin true m x) n a k lo hi e = absurd (true≢false k.0)
    minus (fin false m x) n a k lo hi e = (tt, below_zero (m * up x) (down x) n a q v k.1 lo hi f e)

    go : (t : Bool) → ltb one q ≡ t → T (finite (cond t (neg (float_of (q - one))) (float_of (one - q)))) × Within 44 (value_of (cond t (neg (float_of (q - one))) (float_of (one - q)))) v
    go true e = let l = ltb-true one q e in minus (float_of (q - one)) ((q - one + 128) / 256) (q - one) (float_value (q - one) (omega arith)) (omega arith) (omega arith) (omega arith)
    go false e = let l = ltb-false one q e in number (float_of (one - q)) ((one - q + 128) / 256) (one - q) (float_value (one - q) (omega arith)) (omega arith) (omega arith) (omega arith)
