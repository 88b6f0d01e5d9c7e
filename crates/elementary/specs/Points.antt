-- The exact values against decimals from outside (mpmath 1.3.0 with 120 digits, cut off after the digits that are written), and how the arguments are taken apart. Assumes nothing.
use Rattle.std.specs.Prelude.{◌≡◌, refl, true, false, not, ℕ, ◌+◌, ◌*◌, ◌/◌, ◌^◌, T, leb}
use Rattle.std.proofs.Common.{lit≤}
use Rattle.std.specs.Float.Ieee.{of_bits, size as digits}
use Rattle.std.specs.Float.{binary64}
use Rattle.number.specs.F64.{1f}
use Rattle.elementary.specs.Fraction.{Fraction, size, negative}
use Rattle.elementary.specs.Series.{sum_over, sum_under, product, factorial, even_factorial, odd_number}
use Rattle.elementary.specs.Band.{value_of, distance, WithinOfIt}
use Rattle.elementary.specs.Exact.{ten40, L40, P40, nearest, exp_turns, exp_rest, exp_value, ln_exponent, ln_part, ln_ratio, ln_value, cos_turns, cos_rest, cos_value}

-- the size of a fraction, times 10 ^ n, cut off
abbrev decimals : ℕ → Fraction → ℕ
decimals n w = size w.over * 10 ^ n / w.under

-- 5/2 lies half way, and goes up; so does -5/2
pub half_upward : nearest false 5 2 ≡ 3
unfolding nearest
half_upward = refl

pub minus_half_upward : nearest true 5 2 ≡ 2
unfolding nearest
minus_half_upward = refl

-- e
pub exp_1 : (decimals 32 (exp_value (of_bits binary64 0x3ff0_0000_0000_0000)) ≡ 271828182845904523536028747135266) × (negative (exp_value (of_bits binary64 0x3ff0_0000_0000_0000)).over ≡ false)
unfolding exp_value exp_rest exp_turns nearest ten40 L40 sum_over sum_under product factorial of_bits
exp_1 = (refl, refl)

-- the inverse root of e
pub exp_minus_half : (decimals 32 (exp_value (of_bits binary64 0xbfe0_0000_0000_0000)) ≡ 60653065971263342360379953499118) × (negative (exp_value (of_bits binary64 0xbfe0_0000_0000_0000)).over ≡ false)
unfolding exp_value exp_rest exp_turns nearest ten40 L40 sum_over sum_under product factorial of_bits
exp_minus_half = (refl, refl)

-- just below the half-way point of k = 0
pub exp_half_way : (decimals 32 (exp_value (of_bits binary64 0x3fd6_2e42_fefa_39ef)) ≡ 141421356237309503240355144461194) × (negative (exp_value (of_bits binary64 0x3fd6_2e42_fefa_39ef)).over ≡ false)
unfolding exp_value exp_rest exp_turns nearest ten40 L40 sum_over sum_under product factorial of_bits
exp_half_way = (refl, refl)

-- the least end
pub exp_minus_708 : (decimals 340 (exp_value (of_bits binary64 0xc086_2000_0000_0000)) ≡ 330755300363840799620117429720521) × (negative (exp_value (of_bits binary64 0xc086_2000_0000_0000)).over ≡ false)
unfolding exp_value exp_rest exp_turns nearest ten40 L40 sum_over sum_under product factorial of_bits
exp_minus_708 = (refl, refl)

-- ln 2
pub ln_2 : (decimals 32 (ln_value (of_bits binary64 0x4000_0000_0000_0000)) ≡ 69314718055994530941723212145817) × (negative (ln_value (of_bits binary64 0x4000_0000_0000_0000)).over ≡ false)
unfolding ln_value ln_ratio ln_part ln_exponent digits ten40 L40 sum_over sum_under product odd_number of_bits
ln_2 = (refl, refl)

-- m is 3/4 and k is 2
pub ln_3 : (decimals 32 (ln_value (of_bits binary64 0x4008_0000_0000_0000)) ≡ 109861228866810969139524523692252) × (negative (ln_value (of_bits binary64 0x4008_0000_0000_0000)).over ≡ false)
unfolding ln_value ln_ratio ln_part ln_exponent digits ten40 L40 sum_over sum_under product odd_number of_bits
ln_3 = (refl, refl)

-- the float nearest to 1/10
pub ln_tenth : (decimals 32 (ln_value (of_bits binary64 0x3fb9_9999_9999_999a)) ≡ 230258509299404562850684022342653) × (negative (ln_value (of_bits binary64 0x3fb9_9999_9999_999a)).over ≡ true)
unfolding ln_value ln_ratio ln_part ln_exponent digits ten40 L40 sum_over sum_under product odd_number of_bits
ln_tenth = (refl, refl)

-- one step above 1
pub ln_beside_1 : (decimals 48 (ln_value (of_bits binary64 0x3ff0_0000_0000_0001)) ≡ 222044604925031283432823045461548) × (negative (ln_value (of_bits binary64 0x3ff0_0000_0000_0001)).over ≡ false)
unfolding ln_value ln_ratio ln_part ln_exponent digits ten40 L40 sum_over sum_under product odd_number of_bits
ln_beside_1 = (refl, refl)

-- the least normal float
pub ln_least : (decimals 32 (ln_value (of_bits binary64 0x0010_0000_0000_0000)) ≡ 70839641853226410622441122813025645) × (negative (ln_value (of_bits binary64 0x0010_0000_0000_0000)).over ≡ true)
unfolding ln_value ln_ratio ln_part ln_exponent digits ten40 L40 sum_over sum_under product odd_number of_bits
ln_least = (refl, refl)

pub cos_1 : (decimals 32 (cos_value (of_bits binary64 0x3ff0_0000_0000_0000)) ≡ 54030230586813971740093660744297) × (negative (cos_value (of_bits binary64 0x3ff0_0000_0000_0000)).over ≡ false)
unfolding cos_value cos_rest cos_turns nearest ten40 P40 sum_over sum_under product even_factorial factorial of_bits
cos_1 = (refl, refl)

-- below zero
pub cos_3 : (decimals 32 (cos_value (of_bits binary64 0x4008_0000_0000_0000)) ≡ 98999249660044545727157279473126) × (negative (cos_value (of_bits binary64 0x4008_0000_0000_0000)).over ≡ true)
unfolding cos_value cos_rest cos_turns nearest ten40 P40 sum_over sum_under product even_factorial factorial of_bits
cos_3 = (refl, refl)

pub cos_minus_100 : (decimals 32 (cos_value (of_bits binary64 0xc059_0000_0000_0000)) ≡ 86231887228768393410193851395084) × (negative (cos_value (of_bits binary64 0xc059_0000_0000_0000)).over ≡ false)
unfolding cos_value cos_rest cos_turns nearest ten40 P40 sum_over sum_under product even_factorial factorial of_bits
cos_minus_100 = (refl, refl)

-- the end, 166,886 turns off
pub cos_million : (decimals 32 (cos_value (of_bits binary64 0x4130_0000_0000_0000)) ≡ 94380839390131198400616312632124) × (negative (cos_value (of_bits binary64 0x4130_0000_0000_0000)).over ≡ false)
unfolding cos_value cos_rest cos_turns nearest ten40 P40 sum_over sum_under product even_factorial factorial of_bits
cos_million = (refl, refl)

-- ---- x = 2 ^ k * m of ln: 3 is 4 * 3/4, and so k is 2
pub three_quarters : (ln_exponent (of_bits binary64 0x4008_0000_0000_0000) ≡ record { plus = 1077; minus = 1075 }) × (ln_part (of_bits binary64 0x4008_0000_0000_0000) ≡ record { over = record { plus = 3; minus = 0 }; under = 4 })
unfolding ln_part ln_exponent digits of_bits
three_quarters = (refl, refl)

-- k at the least normal float is -1022, and at the largest 1024
pub least_exponent : ln_exponent (of_bits binary64 0x0010_0000_0000_0000) ≡ record { plus = 53; minus = 1075 }
unfolding ln_exponent digits of_bits
least_exponent = refl

pub largest_exponent : ln_exponent (of_bits binary64 0x7fef_ffff_ffff_ffff) ≡ record { plus = 2099; minus = 1075 }
unfolding ln_exponent digits of_bits
largest_exponent = refl

-- k of exp at the ends is 1023 and -1021
pub most_turns : (exp_turns (of_bits binary64 0x4086_2800_0000_0000) ≡ 1023) × (exp_turns (of_bits binary64 0xc086_2000_0000_0000) ≡ 1021)
unfolding exp_turns nearest ten40 L40 of_bits
most_turns = (refl, refl)

-- ---- the band at 1: the float nearest to e lies in it, twenty floats further still, twenty-four no longer
abbrev e_plus : ℕ → Fraction
e_plus steps = value_of (of_bits binary64 (0x4005_bf0a_8b14_5769 + steps))

pub e_within : WithinOfIt 48 (e_plus 0) (exp_value 1f) × WithinOfIt 48 (e_plus 20) (exp_value 1f)
unfolding exp_value exp_rest exp_turns nearest ten40 L40 sum_over sum_under product factorial of_bits
e_within = (lit≤ tt, lit≤ tt)

pub e_without : T (not (leb (distance (e_plus 24) (exp_value 1f) * 2 ^ 48) ((e_plus 24).under * size (exp_value 1f).over)))
unfolding exp_value exp_rest exp_turns nearest ten40 L40 sum_over sum_under product factorial of_bits
e_without = tt
