-- Any number of passes of `freqt` in one sweep, entry by entry. Assumes nothing.
use Rattle.std.specs.Prelude.{◌≡◌, refl, List, [], ◌∷◌, true, false, drop, negsuc, Float}
use Rattle.std.specs.Float.{fin}
use Rattle.std.specs.Float.Ieee.{of_bits, add, sub, mul, neg}
use Rattle.number.specs.F64.{◌⊕◌, ◌⊖◌, ◌⊗◌, ◌‼◌, 0f, ½f, 1f, 2f}
use Rattle.wave.specs.declared.Wave.{Wave}

-- the last of a list, and d where it is empty
abbrev pub last_or : Float → List Float → Float
last_or d [] = d
last_or d (x ∷ xs) = last_or x xs

-- What passes make of an entry v, one after the other. `old` came into the first of them at the entry before, and `news` they made there: each makes
-- what came into it there, plus alpha * (what comes in here - what it made there).
unfoldable pub outputs : Float → (old v : Float) (news : List Float) → List Float
outputs alpha old v [] = []
outputs alpha old v (new ∷ news) = let next = old ⊕ alpha ⊗ (v ⊖ new) in next ∷ outputs alpha new next news

-- and of entries, one after the other: each becomes what the last pass makes of it
unfoldable pub swept : Float → (old : Float) (news : List Float) → List Float → List Float
swept alpha old news [] = []
swept alpha old news (g ∷ gs) = let next = outputs alpha old g news in last_or g next ∷ swept alpha g next gs

-- the first entry after the passes that take xs in, and the second after each of them
abbrev pub first_after : Float → (xs : List Float) (first : Float) → Float
first_after alpha [] first = first
first_after alpha (x ∷ xs) first = first_after alpha xs (x ⊕ alpha ⊗ first)

unfoldable pub seconds_of : Float → (xs : List Float) (first second : Float) → List Float
seconds_of alpha [] first second = []
seconds_of alpha (x ∷ xs) first second = let next = (1f ⊖ alpha ⊗ alpha) ⊗ first ⊕ alpha ⊗ second in next ∷ seconds_of alpha xs (x ⊕ alpha ⊗ first) next

-- THE SWEEP of passes that take xs in: the first two entries pass by pass, and the rest as a wave
unfoldable pub wave_of : Float → (xs : List Float) → List Float → List Float
wave_of alpha xs g =
    let made = seconds_of alpha xs (g ‼ 0) (g ‼ 1) in
    first_after alpha xs (g ‼ 0) ∷ last_or (g ‼ 1) made ∷ swept alpha (g ‼ 1) made (drop 2 g)

-- what the eight passes made
abbrev pub made_by : Wave → List Float
made_by w = w.first ∷ w.second ∷ w.third ∷ w.fourth ∷ w.fifth ∷ w.sixth ∷ w.seventh ∷ w.eighth ∷ []

-- the passes that take 1 and 2 in, with alpha 1/2, over four zeros: [2.5, 0.75, -0.375, 0.1875]
pub two_passes : wave_of ½f (1f ∷ 2f ∷ []) (0f ∷ 0f ∷ 0f ∷ 0f ∷ []) ≡ fin false 5 (negsuc 0) ∷ fin false 3 (negsuc 1) ∷ fin true 3 (negsuc 2) ∷ fin false 3 (negsuc 3) ∷ []
unfolding wave_of seconds_of swept outputs of_bits add sub mul neg
two_passes = refl
