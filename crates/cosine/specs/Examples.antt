-- The cosine at single points, computed. The arguments are bit patterns of IEEE 754.
use Rattle.std.specs.Prelude.{◌≡◌, ℕ, true, false, pos, negsuc, refl, Float, Ok, Err}
use Rattle.std.specs.Float.{fin, binary64}
use Rattle.std.specs.Float.Ieee.{of_bits, round, neg, le}
use Rattle.cosine.specs.Cos.{cos_of}

-- the float of a bit pattern
abbrev f : ℕ → Float
f b = of_bits binary64 b

-- +0
pub at_zero : cos_of (f 0x0) ≡ Ok (fin false 1 (pos 0))
unfolding cos_of of_bits round neg le
at_zero = refl

-- -0
pub at_minus_zero : cos_of (f 0x8000_0000_0000_0000) ≡ Ok (fin false 1 (pos 0))
unfolding cos_of of_bits round neg le
at_minus_zero = refl

-- 1
pub at_one : cos_of (f 0x3ff0_0000_0000_0000) ≡ Ok (fin false 1216652631687587 (negsuc 50))
unfolding cos_of of_bits round neg le
at_one = refl

-- the float nearest to P
pub at_half_turn : cos_of (f 0x4009_21fb_5444_2d18) ≡ Ok (fin true 1 (pos 0))
unfolding cos_of of_bits round neg le
at_half_turn = refl

-- the float nearest to P / 2: about 6 * 10 ^ -17, which is less than half of 2 ^ -51
pub at_right_angle : cos_of (f 0x3ff9_21fb_5444_2d18) ≡ Ok (fin false 0 (pos 0))
unfolding cos_of of_bits round neg le
at_right_angle = refl

-- 2 ^ 20
pub at_largest : cos_of (f 0x4130_0000_0000_0000) ≡ Ok (fin false 2125267565541547 (negsuc 50))
unfolding cos_of of_bits round neg le
at_largest = refl

-- -2 ^ 20
pub at_least : cos_of (f 0xc130_0000_0000_0000) ≡ Ok (fin false 2125267565541547 (negsuc 50))
unfolding cos_of of_bits round neg le
at_least = refl

-- the next float above 2 ^ 20
pub at_above : cos_of (f 0x4130_0000_0000_0001) ≡ Err (record {})
unfolding cos_of of_bits neg le
at_above = refl

-- the next float below -2 ^ 20
pub at_below : cos_of (f 0xc130_0000_0000_0001) ≡ Err (record {})
unfolding cos_of of_bits neg le
at_below = refl

-- the infinity
pub at_infinity : cos_of (f 0x7ff0_0000_0000_0000) ≡ Err (record {})
unfolding cos_of of_bits neg le
at_infinity = refl

-- a NaN
pub at_nan : cos_of (f 0x7ff8_0000_0000_0000) ≡ Err (record {})
unfolding cos_of of_bits neg le
at_nan = refl
