-- The powers at single points, computed: the expected numbers are from outside, by the same products in IEEE 754. Assumes nothing.
use Rattle.std.specs.Prelude.{◌≡◌, refl, false, not, ℕ, ◌+◌, ◌*◌, ◌^◌, T, leb, pos, negsuc, Float, Ok, Err}
use Rattle.std.proofs.Common.{lit≤}
use Rattle.std.specs.Float.{nan, inf, fin, binary64}
use Rattle.std.specs.Float.Ieee.{of_bits, to_bits, mul, div, lt, le, eq}
use Rattle.elementary.specs.Fraction.{Fraction, whole, power, ◌×ᶠ◌}
use Rattle.elementary.specs.Band.{value_of, distance, Within}
use Rattle.power.specs.Power.{products, digits, root_of_pattern, inverse_power_of, inverse_root_of}

-- the float of a bit pattern
abbrev f : ℕ → Float
f b = of_bits binary64 b

-- ---- a ^ -s
-- 1
pub power_of_one : inverse_power_of (f 0x3ff0_0000_0000_0000) 8 ≡ Ok (fin false 1 (pos 0))
unfolding inverse_power_of products of_bits mul div lt le eq
power_of_one = refl

-- 1/2
pub inverse_two : inverse_power_of (f 0x4000_0000_0000_0000) 1 ≡ Ok (fin false 1 (negsuc 0))
unfolding inverse_power_of products of_bits mul div lt le eq
inverse_two = refl

-- 1/256
pub power_of_two : inverse_power_of (f 0x4000_0000_0000_0000) 8 ≡ Ok (fin false 1 (negsuc 7))
unfolding inverse_power_of products of_bits mul div lt le eq
power_of_two = refl

-- 8
pub power_of_half : inverse_power_of (f 0x3fe0_0000_0000_0000) 3 ≡ Ok (fin false 1 (pos 3))
unfolding inverse_power_of products of_bits mul div lt le eq
power_of_half = refl

-- 2 ^ 120, the largest base: 2 ^ -960
pub power_of_most : inverse_power_of (f 0x4770_0000_0000_0000) 8 ≡ Ok (fin false 1 (negsuc 959))
unfolding inverse_power_of products of_bits mul div lt le eq
power_of_most = refl

-- 2 ^ -120, the smallest: 2 ^ 960
pub power_of_least : inverse_power_of (f 0x3870_0000_0000_0000) 8 ≡ Ok (fin false 1 (pos 960))
unfolding inverse_power_of products of_bits mul div lt le eq
power_of_least = refl

-- 10 ^ -3, the float nearest to it
pub power_of_ten : inverse_power_of (f 0x4024_0000_0000_0000) 3 ≡ Ok (fin false 1152921504606847 (negsuc 59))
unfolding inverse_power_of products of_bits mul div lt le eq
power_of_ten = refl

-- 10 ^ -8, the float nearest to it
pub power_of_ten_8 : inverse_power_of (f 0x4024_0000_0000_0000) 8 ≡ Ok (fin false 3022314549036573 (negsuc 77))
unfolding inverse_power_of products of_bits mul div lt le eq
power_of_ten_8 = refl

-- ---- a ^ (-1 / s)
-- 1
pub root_of_one : inverse_root_of (f 0x3ff0_0000_0000_0000) 8 ≡ Ok (fin false 1 (pos 0))
unfolding inverse_root_of root_of_pattern digits products of_bits to_bits mul lt le eq
root_of_one = refl

-- 1/2
pub root_first : inverse_root_of (f 0x4000_0000_0000_0000) 1 ≡ Ok (fin false 1 (negsuc 0))
unfolding inverse_root_of root_of_pattern digits products of_bits to_bits mul lt le eq
root_first = refl

-- the inverse square root of 2
pub root_of_two : inverse_root_of (f 0x4000_0000_0000_0000) 2 ≡ Ok (fin false 6369051672525773 (negsuc 52))
unfolding inverse_root_of root_of_pattern digits products of_bits to_bits mul lt le eq
root_of_two = refl

-- the eighth root of 2
pub root_of_half : inverse_root_of (f 0x3fe0_0000_0000_0000) 8 ≡ Ok (fin false 4911210218475899 (negsuc 51))
unfolding inverse_root_of root_of_pattern digits products of_bits to_bits mul lt le eq
root_of_half = refl

-- 2 ^ -15
pub root_of_most : inverse_root_of (f 0x4770_0000_0000_0000) 8 ≡ Ok (fin false 1 (negsuc 14))
unfolding inverse_root_of root_of_pattern digits products of_bits to_bits mul lt le eq
root_of_most = refl

-- 2 ^ 40
pub root_of_least : inverse_root_of (f 0x3870_0000_0000_0000) 3 ≡ Ok (fin false 1 (pos 40))
unfolding inverse_root_of root_of_pattern digits products of_bits to_bits mul lt le eq
root_of_least = refl

-- the inverse cube root of 10
pub root_of_ten : inverse_root_of (f 0x4024_0000_0000_0000) 3 ≡ Ok (fin false 8361543096586227 (negsuc 53))
unfolding inverse_root_of root_of_pattern digits products of_bits to_bits mul lt le eq
root_of_ten = refl

-- ---- outside
-- 0
pub power_zero : inverse_power_of (f 0x0) 2 ≡ Err (record {})
unfolding inverse_power_of products of_bits mul div lt le eq
power_zero = refl

pub root_zero : inverse_root_of (f 0x0) 2 ≡ Err (record {})
unfolding inverse_root_of root_of_pattern digits products of_bits to_bits mul lt le eq
root_zero = refl

-- -1
pub power_minus_one : inverse_power_of (f 0xbff0_0000_0000_0000) 2 ≡ Err (record {})
unfolding inverse_power_of products of_bits mul div lt le eq
power_minus_one = refl

pub root_minus_one : inverse_root_of (f 0xbff0_0000_0000_0000) 2 ≡ Err (record {})
unfolding inverse_root_of root_of_pattern digits products of_bits to_bits mul lt le eq
root_minus_one = refl

-- a NaN
pub power_nan : inverse_power_of nan 2 ≡ Err (record {})
unfolding inverse_power_of products of_bits mul div lt le eq
power_nan = refl

pub root_nan : inverse_root_of nan 2 ≡ Err (record {})
unfolding inverse_root_of root_of_pattern digits products of_bits to_bits mul lt le eq
root_nan = refl

-- the infinity
pub power_infinity : inverse_power_of (inf false) 2 ≡ Err (record {})
unfolding inverse_power_of products of_bits mul div lt le eq
power_infinity = refl

pub root_infinity : inverse_root_of (inf false) 2 ≡ Err (record {})
unfolding inverse_root_of root_of_pattern digits products of_bits to_bits mul lt le eq
root_infinity = refl

-- the float before 2 ^ -120
pub power_below_least : inverse_power_of (f 0x386f_ffff_ffff_ffff) 2 ≡ Err (record {})
unfolding inverse_power_of products of_bits mul div lt le eq
power_below_least = refl

pub root_below_least : inverse_root_of (f 0x386f_ffff_ffff_ffff) 2 ≡ Err (record {})
unfolding inverse_root_of root_of_pattern digits products of_bits to_bits mul lt le eq
root_below_least = refl

-- the float after 2 ^ 120
pub power_above_most : inverse_power_of (f 0x4770_0000_0000_0001) 2 ≡ Err (record {})
unfolding inverse_power_of products of_bits mul div lt le eq
power_above_most = refl

pub root_above_most : inverse_root_of (f 0x4770_0000_0000_0001) 2 ≡ Err (record {})
unfolding inverse_root_of root_of_pattern digits products of_bits to_bits mul lt le eq
root_above_most = refl

-- s = 0
pub power_stage_zero : inverse_power_of (f 0x4000_0000_0000_0000) 0 ≡ Err (record {})
unfolding inverse_power_of products of_bits mul div lt le eq
power_stage_zero = refl

pub root_stage_zero : inverse_root_of (f 0x4000_0000_0000_0000) 0 ≡ Err (record {})
unfolding inverse_root_of root_of_pattern digits products of_bits to_bits mul lt le eq
root_stage_zero = refl

-- s = 9
pub power_stage_nine : inverse_power_of (f 0x4000_0000_0000_0000) 9 ≡ Err (record {})
unfolding inverse_power_of products of_bits mul div lt le eq
power_stage_nine = refl

pub root_stage_nine : inverse_root_of (f 0x4000_0000_0000_0000) 9 ≡ Err (record {})
unfolding inverse_root_of root_of_pattern digits products of_bits to_bits mul lt le eq
root_stage_nine = refl

-- ---- the bands: 262 floats above the answer for 10 and 3 still lie in it, 263 no longer; and 2895 above that for 2 and 2
abbrev product : ℕ → Fraction
product steps = value_of (f (0x3f50_624d_d2f1_a9fc + steps)) ×ᶠ power (value_of (f 0x4024_0000_0000_0000)) 3

pub power_band : Within 44 (product 262) (whole false 1) × T (not (leb (distance (product 263) (whole false 1) * 2 ^ 44) ((product 263).under * 1)))
unfolding of_bits
power_band = (lit≤ tt, tt)

abbrev square : ℕ → Fraction
square steps = power (value_of (f (0x3fe6_a09e_667f_3bcd + steps))) 2 ×ᶠ value_of (f 0x4000_0000_0000_0000)

pub root_band : Within 40 (square 2895) (whole false 1) × T (not (leb (distance (square 2896) (whole false 1) * 2 ^ 40) ((square 2896).under * 1)))
unfolding of_bits
root_band = (lit≤ tt, tt)
