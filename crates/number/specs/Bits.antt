-- A float's 64 bits, and the float of 64 bits. Assumes nothing.
use Rattle.std.specs.Prelude.{◌≡◌, ℕ, Bool, true, false, not, ◌&&◌, pos, negsuc, ◌==◌, refl, Float}
use Rattle.std.specs.Float.{nan, fin, binary64}
use Rattle.std.specs.Float.Ieee.{of_bits, to_bits, nan_bits}

-- the bits of x as IEEE 754 lays them out; the NaN's are always those of `quiet`
abbrev pub bits_of : Float → ℕ
bits_of x = to_bits binary64 x

-- the float whose bits are b; every NaN pattern is the NaN
abbrev pub float_of : ℕ → Float
float_of b = of_bits binary64 b

-- the one NaN pattern that is ever written
abbrev pub quiet : ℕ
quiet = 0x7ff8_0000_0000_0000

-- b is a NaN's pattern, and not the one that is written
unfoldable pub other_nan : ℕ → Bool
other_nan b = nan_bits binary64 b && not (b == quiet)

pub one_bits : bits_of (fin false 1 (pos 0)) ≡ 0x3ff0_0000_0000_0000
unfolding to_bits
one_bits = refl

pub nan_bits_lem : bits_of nan ≡ 0x7ff8_0000_0000_0000
unfolding to_bits
nan_bits_lem = refl

-- minus three halves
pub float_of_number : float_of 0xbff8_0000_0000_0000 ≡ fin true 3 (negsuc 0)
unfolding of_bits
float_of_number = refl

-- a NaN's pattern with its sign set and a payload
pub float_of_nan : float_of 0xfff8_0000_0000_0001 ≡ nan
unfolding of_bits
float_of_nan = refl

pub other_nan_lem : other_nan 0xfff8_0000_0000_0001 ≡ true
unfolding other_nan nan_bits
other_nan_lem = refl

-- an infinity is no NaN
pub other_inf : other_nan 0x7ff0_0000_0000_0000 ≡ false
unfolding other_nan nan_bits
other_inf = refl
