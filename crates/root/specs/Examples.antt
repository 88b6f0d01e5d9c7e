-- The definitions of the square root at single points, computed. The numbers are bit patterns of IEEE 754.
use Rattle.std.specs.Prelude.{◌≡◌, ℕ, ◌*◌, ◌^◌, refl, Float}
use Rattle.std.specs.Float.{nan, binary64}
use Rattle.std.specs.Float.Ieee.{of_bits}
use Rattle.root.specs.Root.{floor_root, nearest_root, units_of, root_of_units, root_of}

-- the float of a bit pattern
abbrev f : ℕ → Float
f b = of_bits binary64 b

-- 4 * 4 = 16 is the greatest square at most 24, and 5 * 5 the least above it
pub floor_of_24 : floor_root 3 24 ≡ 4
unfolding floor_root
floor_of_24 = refl

-- the root of 20 is below 4 1/2, that of 21 above it
pub nearest_to_20 : nearest_root 20 ≡ 4
unfolding nearest_root floor_root
nearest_to_20 = refl

pub nearest_to_21 : nearest_root 21 ≡ 5
unfolding nearest_root floor_root
nearest_to_21 = refl

-- 1.5 has 3 * 2 ^ 1073 units
pub units_of_one_and_a_half : units_of (f 0x3ff8_0000_0000_0000) ≡ 3 * 2 ^ 1073
unfolding units_of of_bits
units_of_one_and_a_half = refl

-- 1
pub root_of_one : root_of (f 0x3ff0_0000_0000_0000) ≡ f 0x3ff0_0000_0000_0000
unfolding root_of root_of_units nearest_root floor_root units_of of_bits
root_of_one = refl

-- 2
pub root_of_two : root_of (f 0x4000_0000_0000_0000) ≡ f 0x3ff6_a09e_667f_3bcd
unfolding root_of root_of_units nearest_root floor_root units_of of_bits
root_of_two = refl

-- 4
pub root_of_four : root_of (f 0x4010_0000_0000_0000) ≡ f 0x4000_0000_0000_0000
unfolding root_of root_of_units nearest_root floor_root units_of of_bits
root_of_four = refl

-- the next float after 1, whose root lies just below the point half way to it: it goes down
pub root_above_one : root_of (f 0x3ff0_0000_0000_0001) ≡ f 0x3ff0_0000_0000_0000
unfolding root_of root_of_units nearest_root floor_root units_of of_bits
root_above_one = refl

-- the float before 1, whose root lies just above the point half way to 1
pub root_below_one : root_of (f 0x3fef_ffff_ffff_ffff) ≡ f 0x3fef_ffff_ffff_ffff
unfolding root_of root_of_units nearest_root floor_root units_of of_bits
root_below_one = refl

-- the least subnormal, 2 ^ -1074
pub root_of_least : root_of (f 0x1) ≡ f 0x1e60_0000_0000_0000
unfolding root_of root_of_units nearest_root floor_root units_of of_bits
root_of_least = refl

-- the largest float
pub root_of_largest : root_of (f 0x7fef_ffff_ffff_ffff) ≡ f 0x5fef_ffff_ffff_ffff
unfolding root_of root_of_units nearest_root floor_root units_of of_bits
root_of_largest = refl

-- -0
pub root_of_minus_zero : root_of (f 0x8000_0000_0000_0000) ≡ f 0x8000_0000_0000_0000
unfolding root_of root_of_units nearest_root floor_root units_of of_bits
root_of_minus_zero = refl

-- -1
pub root_of_minus_one : root_of (f 0xbff0_0000_0000_0000) ≡ nan
unfolding root_of root_of_units nearest_root floor_root units_of of_bits
root_of_minus_one = refl

-- the infinity
pub root_of_infinity : root_of (f 0x7ff0_0000_0000_0000) ≡ f 0x7ff0_0000_0000_0000
unfolding root_of root_of_units nearest_root floor_root units_of of_bits
root_of_infinity = refl

-- a NaN
pub root_of_nan : root_of (f 0x7ff8_0000_0000_0000) ≡ nan
unfolding root_of root_of_units nearest_root floor_root units_of of_bits
root_of_nan = refl
