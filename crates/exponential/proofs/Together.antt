-- The parts of an answer, joined, are the answer: without a rest the sum is 1, and 1 times the power is the power. Assumes nothing.
use Rattle.std.proofs.Common.{◌≡◌, ℕ, ◌+◌, ◌-◌, ◌*◌, ◌^◌, ◌≤◌, Bool, true, false, cond, T, ltb, pos, sym, refl, ap, ◌∙◌, subst, one-mul, lt_of_not-le, arith, pow_pos, pow_mono, pow-add}
use native.Mathlib.Decide.{dec_le}
use lib.Ieee.{Float, nan, inf, binary64, fits, of_bits, of_int, add, mul, neg, is_nan, unlike}
use lib.Ieee.Bits.{of_bits-fits}
use lib.Ieee.Exact.{HasValue}
use lib.Ieee.Fits.{mul-fits}
use Rattle.number.specs.F64.{◌⊗◌, −◌, 0f, 1f}
use Rattle.number.proofs.Floats.{is_the_nan}
use Rattle.root.proofs.Floats.{units_are, same_float}
use Rattle.elementary.specs.Horner.{horner}
use Rattle.elementary.proofs.Rounding.{Ordinary}
use Rattle.elementary.proofs.Scaling.{scale_value}
use Rattle.exponential.specs.Exp.{multiples, power_of_two, coefficients, sum_at, unit, rest_of, inside_of}
use Rattle.exponential.proofs.Cases.{without_rest, with_rest}
use Rattle.exponential.proofs.Powers.{field, power_value}

-- ---- the sum at a zero of either sign
sum_at_zero : sum_at 0f ≡ 1f
unfolding horner coefficients of_bits add mul
sum_at_zero = refl

sum_at_none : (w : Bool) → sum_at (of_int binary64 (pos 0) ⊗ cond w (− unit) unit) ≡ 1f
unfolding horner coefficients of_bits of_int add mul neg
sum_at_none false = refl
sum_at_none true = refl

-- ---- 1 times a power of two
module _ (t : Bool) (k : ℕ) where
  abbrev e : ℕ
  e = field t k

  abbrev w : Float
  w = power_of_two t k

  ordinary : 1 ≤ e → e ≤ 2046 → Ordinary (1 * 2 ^ e) (1 * 2 ^ 1023)
  ordinary l h = record {
    least = rw (one-mul (2 ^ 1023), one-mul (2 ^ e), ← pow-add 2 e 1022) (pow_mono {i = 1023} {j = e + 1022} (omega arith));
    most = most (2 ^ e) (2 ^ 1023) (rw (← pow-add 2 1023 1023) (pow_mono {i = e} {j = 2046} h));
  }
    where
      most : (n d : ℕ) → n ≤ d * d → 4 * (1 * n) ≤ 7 * (1 * d * d)
      most n d h = omega arith

  value : 1 ≤ e → e ≤ 2046 → HasValue (1f ⊗ w) false (1 * 2 ^ e) (1 * 2 ^ 1023)
  unfolding of_bits fits
  value l h = scale_value 1f w e tt tt (power_value t k l h) (ordinary l h)

  in_units : (a c : ℕ) → a ≡ 1 * 2 ^ e → c ≡ 1 * 2 ^ 1023 → a * 2 ^ 1074 ≡ 2 ^ e * 2 ^ 51 * c
  in_units a c p q = rw (p, q, pow-add 2 51 1023) (turn (2 ^ e) (2 ^ 51) (2 ^ 1023))
    where
      turn : (x y z : ℕ) → 1 * x * (y * z) ≡ x * y * (1 * z)
      turn x y z = omega arith

  above_none : 1 ≤ e → e ≤ 2046 → 1f ⊗ w ≡ w
  unfolding power_of_two
  above_none l h =
      let one = units_are (1f ⊗ w) (1 * 2 ^ e) (1 * 2 ^ 1023) (2 ^ e * 2 ^ 51) (rw (one-mul (2 ^ 1023)) (pow_pos 1023)) (value l h) (in_units (1 * 2 ^ e) (1 * 2 ^ 1023) refl refl) in
      let own = units_are w (2 ^ e) (2 ^ 1023) (2 ^ e * 2 ^ 51) (pow_pos 1023) (power_value t k l h) (in_units (2 ^ e) (2 ^ 1023) (sym (one-mul (2 ^ e))) (sym (one-mul (2 ^ 1023)))) in
      same_float (1f ⊗ w) w (mul-fits binary64 1f w) one.1 held own.1 (one.0 ∙ sym own.0)
    where
      held : T (fits binary64 w)
      held = of_bits-fits binary64 (e * 2 ^ 52)

  -- the pattern of 0 where the field is 0
  one_times : e ≤ 2046 → 1f ⊗ w ≡ w
  unfolding power_of_two of_bits mul
  one_times h = go (dec_le 1 e)
    where
      none : (f : ℕ) → f ≡ 0 → 1f ⊗ of_bits binary64 (f * 2 ^ 52) ≡ of_bits binary64 (f * 2 ^ 52)
      none f z = rw z refl

      go : Dec (1 ≤ e) → 1f ⊗ w ≡ w
      go (yes l) = above_none l h
      go (no l) = none e (let g = lt_of_not-le l in omega arith)

-- ---- inside the range
field_most : (t : Bool) (k : ℕ) → k ≤ 1023 → field t k ≤ 2046
field_most false k h = omega arith
field_most true k h = omega arith

pub joined_inside : (s : Bool) (u k : ℕ) → k ≤ 1023 → sum_at (rest_of s u (multiples (2 * k))) ⊗ power_of_two s k ≡ inside_of s u k
unfolding rest_of
joined_inside s u k h = go (multiples (2 * k)) refl (dec_le ((u - multiples (2 * k)) + (multiples (2 * k) - u)) 0)
  where
    no_rest : (m : ℕ) → u ≡ m → sum_at (rest_of s u m) ≡ 1f
    no_rest m e = let z : (u - m) + (m - u) ≡ 0 = omega arith in rw z (sum_at_none (unlike (ltb u m) s))

    go : (m : ℕ) → m ≡ multiples (2 * k) → Dec ((u - m) + (m - u) ≤ 0) → sum_at (rest_of s u (multiples (2 * k))) ⊗ power_of_two s k ≡ inside_of s u k
    go m e (yes z) =
        let same : u ≡ multiples (2 * k) = omega arith in
        ap (λ (p : Float). p ⊗ power_of_two s k) (no_rest (multiples (2 * k)) same) ∙ one_times s k (field_most s k h) ∙ sym (without_rest s u k same)
    go m e (no n) = sym (with_rest s u k (λ same. n (omega arith)))

-- ---- outside, where the power is the answer
pub joined_nan : (x : Float) → is_nan x ≡ true → sum_at 0f ⊗ x ≡ x
unfolding of_bits mul
joined_nan x h = let n : x ≡ nan = is_the_nan x h in subst (λ (z : Float). sum_at 0f ⊗ z ≡ z) (sym n) (ap (λ (p : Float). p ⊗ nan) sum_at_zero ∙ once)
  where
    once : 1f ⊗ nan ≡ nan
    once = refl

pub joined_infinity : sum_at 0f ⊗ inf false ≡ inf false
unfolding of_bits mul
joined_infinity = ap (λ (p : Float). p ⊗ inf false) sum_at_zero

pub joined_none : sum_at 0f ⊗ 0f ≡ 0f
unfolding of_bits mul
joined_none = ap (λ (p : Float). p ⊗ 0f) sum_at_zero
