-- Where a float stands: whether it is a number at all, whether it lies between two others, and its nearest there. Assumes nothing.
use Rattle.std.specs.Prelude.{◌≡◌, Bool, true, false, cond, ◌&&◌, refl, Float}
use Rattle.std.specs.Float.{nan, inf, fin}
use Rattle.std.specs.Float.Ieee.{lt, le, neg, of_bits}
use Rattle.number.specs.F64.{0f, 1f, 2f, −◌}

-- neither the NaN nor an infinity
abbrev pub finite : Float → Bool
finite nan = false
finite (inf s) = false
finite (fin s m e) = true

-- from low to high, the ends counted; false where a NaN is among the three
abbrev pub is_within : Float → Float → Float → Bool
is_within x low high = le low x && le x high

-- the same without the ends
abbrev pub is_strictly_within : Float → Float → Float → Bool
is_strictly_within x low high = lt low x && lt x high

-- low where x is below it, high where x is above it, and otherwise x: a NaN stays
abbrev pub clamp_of : Float → Float → Float → Float
clamp_of x low high = cond (lt x low) low (cond (lt high x) high x)

pub finite_number : finite 1f ≡ true
unfolding of_bits
finite_number = refl

pub finite_infinity : finite (inf true) ≡ false
finite_infinity = refl

pub within_end : is_within 2f 0f 2f ≡ true
unfolding of_bits le lt
within_end = refl

pub strictly_end : is_strictly_within 2f 0f 2f ≡ false
unfolding of_bits lt
strictly_end = refl

pub within_nan : is_within nan 0f 2f ≡ false
unfolding of_bits le lt
within_nan = refl

pub clamp_below : clamp_of (− 1f) 0f 1f ≡ 0f
unfolding of_bits neg lt
clamp_below = refl

pub clamp_inside : clamp_of 1f 0f 2f ≡ 1f
unfolding of_bits lt
clamp_inside = refl

pub clamp_above : clamp_of 2f 0f 1f ≡ 1f
unfolding of_bits lt
clamp_above = refl

pub clamp_nan : clamp_of nan 0f 1f ≡ nan
unfolding of_bits lt
clamp_nan = refl

-- with its bounds exchanged, where the Rust panics
pub clamp_exchanged : clamp_of 0f 1f (− 1f) ≡ 1f
unfolding of_bits neg lt
clamp_exchanged = refl
