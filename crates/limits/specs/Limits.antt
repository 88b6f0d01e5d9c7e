-- What the functions under C names answer and leave. Definitions only.
use Rattle.std.specs.Prelude.{Bool, true, false, ◌&&◌, ℕ, leb, eqb, Result, Ok, Err}
use Rattle.elementary.specs.declared.answer.Outside.{Outside}
use Rattle.elementary.specs.Outcome.{Outcome, outside, inside, or_else}

-- document 01's numbers: 0 done, 1 where a limit is broken, 9 outside
abbrev pub status : {A : Type 0} → (limits : Bool) → Outcome A → ℕ
status false d = 1
status true outside = 9
status true (inside a) = 0

-- what a lent array holds afterwards
abbrev pub after : {A : Type 0} → (limits : Bool) → A → Outcome A → A
after false before d = before
after true before d = or_else before d

-- n entries, from 2 to 64, and m of the other slice
abbrev pub entries_of : (n m : ℕ) → Bool
entries_of n m = leb 2 n && (leb n 64 && eqb m n)

-- a stage from 1 to 8
abbrev pub stage_of : ℕ → Bool
stage_of s = leb 1 s && leb s 8

-- from 1 to 65 entries, at a stage
abbrev pub generalized_of : (n s : ℕ) → Bool
generalized_of n s = leb 1 n && (leb n 65 && stage_of s)

-- the number of an answer
abbrev pub number_for : Result Unit Outside → ℕ
number_for (Ok u) = 0
number_for (Err o) = 9
