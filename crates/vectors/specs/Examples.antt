-- Those definitions at computed points. Assumes nothing.
use Rattle.std.specs.Prelude.{◌≡◌, refl, List, [], ◌∷◌, false, ℕ, pos, negsuc, Float}
use Rattle.std.specs.Float.{fin, binary64}
use Rattle.std.specs.Float.Ieee.{of_bits, of_int, add, mul, div}
use Rattle.number.specs.F64.{◌⊕◌, ½f, 1f, 2f}
use Rattle.vectors.specs.Vectors.{sum_from, energy_of, grown, times_from, over_from, plus}

-- 2^53 + 1 + 1: each 1 is lost where it is added by itself
pub summed_in_order : sum_from (λ k. 1f) 0 2 (fin false 1 (pos 53)) ≡ fin false 1 (pos 53)
unfolding sum_from add of_bits
summed_in_order = refl

-- 1/4 + 1 + 4
pub three_squares : energy_of (½f ∷ 1f ∷ 2f ∷ []) ≡ fin false 21 (negsuc 1)
unfolding energy_of sum_from add mul of_bits
three_squares = refl

-- 2^54 + 1 + 1 + 1, whose sum from the far end is larger
pub squares_in_order : energy_of (fin false 1 (pos 27) ∷ 1f ∷ 1f ∷ 1f ∷ []) ≡ fin false 1 (pos 54)
unfolding energy_of sum_from add mul of_bits
squares_in_order = refl

-- entry i is i more than the one before it: 0, 1, 3, 6
abbrev next : List Float → ℕ → Float
next [] i = of_int binary64 (pos i)
next (x ∷ []) i = x ⊕ of_int binary64 (pos i)
next (x ∷ y ∷ l) i = next (y ∷ l) i

pub four_entries : grown next 4 ≡ fin false 0 (pos 0) ∷ fin false 1 (pos 0) ∷ fin false 3 (pos 0) ∷ fin false 3 (pos 1) ∷ []
unfolding grown add of_int
four_entries = refl

pub from_the_second : times_from 1 2f (½f ∷ ½f ∷ 1f ∷ []) ≡ ½f ∷ fin false 1 (pos 0) ∷ fin false 1 (pos 1) ∷ []
unfolding times_from mul of_bits
from_the_second = refl

pub divided_from_the_second : over_from 1 2f (½f ∷ ½f ∷ 1f ∷ []) ≡ ½f ∷ fin false 1 (negsuc 1) ∷ fin false 1 (negsuc 0) ∷ []
unfolding over_from div of_bits
divided_from_the_second = refl

pub place_by_place : plus (½f ∷ 1f ∷ 2f ∷ []) (½f ∷ 2f ∷ []) ≡ fin false 1 (pos 0) ∷ fin false 3 (pos 0) ∷ 2f ∷ []
unfolding plus add of_bits
place_by_place = refl
