-- Five rows of taps: the lanes of two pairs, and a list by itself. Assumes nothing.
use Rattle.std.specs.Prelude.{◌≡◌, refl, List, [], ◌∷◌, ℕ, zero, suc, Float}
use Rattle.number.specs.F64.{0f, ½f, 1f, 2f}
use Rattle.fir.specs.declared.Carried.{Carried}
use Rattle.fir.specs.Fir.{Taps}
use Rattle.lanes.specs.declared.five.Five.{Five}
use Rattle.lanes.specs.Lane.{lane}

-- row k, of n taps
abbrev pub row_at : ℕ → ℕ → (first second last : List Float) → List Float
row_at zero n first second last = lane 0 n first
row_at (suc zero) n first second last = lane 1 n first
row_at (suc (suc zero)) n first second last = lane 0 n second
row_at (suc (suc (suc zero))) n first second last = lane 1 n second
row_at (suc (suc (suc (suc k)))) n first second last = last

-- the number of row k
abbrev pub number_at : ℕ → Five Float → Float
number_at zero x = x.first.a
number_at (suc zero) x = x.first.b
number_at (suc (suc zero)) x = x.second.a
number_at (suc (suc (suc zero))) x = x.second.b
number_at (suc (suc (suc (suc k)))) x = x.last

-- what is carried on in row k
abbrev pub carried_at : ℕ → Five Carried → Carried
carried_at zero s = s.first.a
carried_at (suc zero) s = s.first.b
carried_at (suc (suc zero)) s = s.second.a
carried_at (suc (suc (suc zero))) s = s.second.b
carried_at (suc (suc (suc (suc k)))) s = s.last

-- the taps of row k, and what is carried on to its next
abbrev pub taps_at : ℕ → ℕ → (first second last : List Float) → Five Carried → Taps
taps_at k n first second last s = record { d = row_at k n first second last; on = carried_at k s }

-- two taps each: row 2 is the first lane of the second pair, row 4 the list
pub third_row : row_at 2 2 [] (0f ∷ ½f ∷ 1f ∷ 2f ∷ []) [] ≡ 0f ∷ 1f ∷ []
unfolding lane
third_row = refl

pub last_row : row_at 4 2 [] [] (1f ∷ 2f ∷ []) ≡ 1f ∷ 2f ∷ []
last_row = refl

pub fourth_number : number_at 3 (record { first = record { a = 0f; b = 0f }; second = record { a = 1f; b = ½f }; last = 2f }) ≡ ½f
fourth_number = refl
