-- The first four rows of the taps of the second part laid side by side in two pairs of lanes. Assumes nothing.
use Rattle.std.specs.Prelude.{◌≡◌, refl, List, [], ◌∷◌, ◌++◌, ℕ, ◌*◌, drop, set, replicate, Float}
use Rattle.std.specs.Float.Ieee.{of_bits, add, mul, neg}
use Rattle.number.specs.F64.{0f, ½f, 1f, 2f}
use Rattle.lanes.specs.declared.five.Five.{Five}
use Rattle.lanes.specs.Lane.{lane}
use Rattle.mlsa.specs.declared.Sums.{Sums}
use Rattle.mlsa.specs.Mlsa.{Part, part, weighed}

-- rows one after the other, and then the rest
abbrev pub joined : List (List Float) → List Float → List Float
joined [] rest = rest
joined (r ∷ rs) rest = r ++ joined rs rest

-- the lanes of n taps of both pairs as rows
abbrev pub lanes_of : ℕ → List Float → List Float → List (List Float)
lanes_of n first second = lane 0 n first ∷ lane 1 n first ∷ lane 0 n second ∷ lane 1 n second ∷ []

-- the taps d21 with their first four rows as the lanes have them
unfoldable pub flat : ℕ → List Float → List Float → List Float → List Float
flat n first second d21 = joined (lanes_of n first second) (drop (4 * n) d21)

-- rows 0, ½ and 1, 2 and so on of two taps each, and one more tap
pub laid_example : flat 2 (0f ∷ 1f ∷ ½f ∷ 2f ∷ []) (2f ∷ 1f ∷ 0f ∷ ½f ∷ []) (replicate 8 0f ++ (2f ∷ [])) ≡ 0f ∷ ½f ∷ 1f ∷ 2f ∷ 2f ∷ 0f ∷ 1f ∷ ½f ∷ 2f ∷ []
unfolding flat lane
laid_example = refl

-- a part with the answers of rows 5 to 1, weighed
abbrev pub answered : Five Float → Part → Part
answered y p =
    part p.d1 (set (set (set (set (set p.d2 5 y.last) 4 y.second.b) 3 y.second.a) 2 y.first.b) 1 y.first.a)
    (weighed 1 y.first.a (weighed 2 y.first.b (weighed 3 y.second.a (weighed 4 y.second.b (weighed 5 y.last p.sums)))))

-- zeros but for row 1, whose constant is just below ½: twice that is added to the sample and to the sum
abbrev none : Sums
none = record { x = 0f; out = 0f }

abbrev twice : Five Float
twice = record { first = record { a = 2f; b = 0f }; second = record { a = 0f; b = 0f }; last = 0f }

pub answers_stand : (answered twice (part [] (replicate 6 1f) none)).d2 ≡ 1f ∷ 2f ∷ 0f ∷ 0f ∷ 0f ∷ 0f ∷ []
answers_stand = refl

pub answers_weighed : (answered twice (part [] (replicate 6 1f) none)).sums ≡ weighed 1 2f none
unfolding weighed of_bits add mul neg
answers_weighed = refl
