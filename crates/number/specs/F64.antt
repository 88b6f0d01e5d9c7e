-- Short names for the operations of f64, and the constants that definitions use. Assumes nothing.
use Rattle.std.specs.Prelude.{◌≡◌, ℕ, true, false, List, [], ◌∷◌, pos, negsuc, slice_index_or, refl, Float}
use Rattle.std.specs.Float.{nan, fin, binary64}
use Rattle.std.specs.Float.Ieee.{of_bits, add, sub, mul, div, neg}

infixl 75 ◌⊕◌
infixl 75 ◌⊖◌
infixl 80 ◌⊗◌
infixl 80 ◌⊘◌
infix 85 −◌
infixl 90 ◌‼◌
-- each result is the nearest float to the exact one
abbrev pub ◌⊕◌ : Float → Float → Float
x ⊕ y = add binary64 x y

abbrev pub ◌⊖◌ : Float → Float → Float
x ⊖ y = sub binary64 x y

abbrev pub ◌⊗◌ : Float → Float → Float
x ⊗ y = mul binary64 x y

abbrev pub ◌⊘◌ : Float → Float → Float
x ⊘ y = div binary64 x y

abbrev pub −◌ : Float → Float
− x = neg x

-- the element at i, and past the end the NaN
abbrev pub ◌‼◌ : List Float → ℕ → Float
l ‼ i = slice_index_or l i nan

abbrev pub 0f : Float
0f = of_bits binary64 0

abbrev pub ½f : Float
½f = of_bits binary64 0x3fe0_0000_0000_0000

abbrev pub 1f : Float
1f = of_bits binary64 0x3ff0_0000_0000_0000

abbrev pub 2f : Float
2f = of_bits binary64 0x4000_0000_0000_0000

-- 2 * 1/2 - 1 is 0, and ⊗ binds tighter than ⊖
pub sum_of_product : 2f ⊗ ½f ⊖ 1f ≡ 0f
unfolding of_bits add sub mul neg
sum_of_product = refl

-- 1 / -2 is minus a half
pub quotient : 1f ⊘ − 2f ≡ fin true 1 (negsuc 0)
unfolding of_bits div neg
quotient = refl

pub second : (1f ∷ 2f ∷ []) ‼ 1 ⊕ 0f ≡ fin false 1 (pos 1)
unfolding of_bits add
second = refl
