-- Sizes by their bit patterns, and when an addend is lost in a number. Assumes nothing.
use Rattle.std.specs.Prelude.{◌≡◌, refl, Bool, true, false, ◌&&◌, ℕ, ◌%◌, ◌^◌, ◌≤◌, pos, negsuc, T, Float}
use Rattle.std.specs.Float.{nan, fin, binary64}
use Rattle.std.specs.Float.Ieee.{fits, to_bits, of_bits, add, sub, neg, lt, le, eq}
use Rattle.number.specs.F64.{◌⊕◌, ◌⊖◌, 0f}
use Rattle.number.specs.Bits.{bits_of}

-- the bits of x without the sign's: the larger the size, the later the pattern, and the NaN's is the last
abbrev pub pattern_of : Float → ℕ
pattern_of x = bits_of x % 2 ^ 63

-- x is an f64 up to the pattern p in size
pub record UpTo (p : ℕ) (x : Float) : Type 0 where
  pub held : T (fits binary64 x)
  pub size : pattern_of x ≤ p

pub minus_two : pattern_of (fin true 1 (pos 1)) ≡ pattern_of (fin false 1 (pos 1))
unfolding to_bits
minus_two = refl

pub nan_last : pattern_of nan ≡ 0x7ff8_0000_0000_0000
unfolding to_bits
nan_last = refl

-- b is above zero and lost in a, added to it or taken from it
unfoldable pub lost_in : Float → Float → Bool
lost_in a b = lt 0f b && lt b a && le (a ⊕ b) a && le a (a ⊖ b)

-- 2^-55 is lost in 1, and 2^-54 is not: taken from 1, it would leave the float below
pub small_lost : lost_in (fin false 1 (pos 0)) (fin false 1 (negsuc 54)) ≡ true
unfolding lost_in of_bits add sub neg lt le eq
small_lost = refl

pub half_a_step_not_lost : lost_in (fin false 1 (pos 0)) (fin false 1 (negsuc 52)) ≡ false
unfolding lost_in of_bits add sub neg lt le eq
half_a_step_not_lost = refl
