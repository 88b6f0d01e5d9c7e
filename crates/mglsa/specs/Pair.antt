-- Two rows of taps, one after the other in one list, warped side by side. Assumes nothing.
use Rattle.std.specs.Prelude.{◌≡◌, refl, false, List, [], ◌∷◌, ◌++◌, ℕ, ◌+◌, length, take, drop, pos, negsuc, Float}
use Rattle.std.specs.Float.{fin}
use Rattle.std.specs.Float.Ieee.{of_bits, add, sub, mul}
use Rattle.number.specs.F64.{◌⊕◌, ◌⊖◌, ◌⊗◌, ½f, 0f, 1f, 2f, ◌‼◌}
use Rattle.mglsa.specs.declared.pair.Row.{Row}
use Rattle.mglsa.specs.declared.pair.Both.{Both}
use Rattle.mglsa.specs.Mglsa.{Passed, passed, warp_at, warps, warped, pushed, dff_of}

-- the row d as it would stand at tap i, had no tap been moved on: all before i but the first were, and tap i itself is carried as `here`.
-- What is at place 1 is of no use any more.
unfoldable pub standing : ℕ → Float → List Float → List Float
standing i here d = (take 1 d ++ drop 2 (take (i + 1) d)) ++ here ∷ drop (i + 1) d

-- at tap 2, which was 0.5: tap 1, now 2, stands at place 2
pub one_moved : standing 2 ½f (0f ∷ 1f ∷ 2f ∷ 1f ∷ []) ≡ 0f ∷ 2f ∷ ½f ∷ 1f ∷ []
unfolding standing
one_moved = refl

-- the first two taps of the row at `from`, and the product of the first
abbrev pub started : List Float → ℕ → Float → Row
started d from factor = record { before = d ‼ from; here = d ‼ (from + 1); sum = d ‼ from ⊗ factor }

-- the tap that is carried, between its neighbours
abbrev pub between : (next alpha : Float) → Row → Float
between next alpha s = s.here ⊕ alpha ⊗ (next ⊖ s.before)

-- a tap on, with the sum
abbrev pub carried : (tap next factor : Float) → Row → Row
carried tap next factor s = record { before = tap; here = next; sum = s.sum ⊕ tap ⊗ factor }

-- tap i of a row as `warp_at` has it, and the tap that is carried on
pub record WarpedRow (alpha : Float) (c : List Float) (i : ℕ) (s : Row) (d : List Float) (r : Row) (after : List Float) : Type 0 where
  pub tap : passed (standing (i + 1) r.here after) r.sum ≡ warp_at alpha c i (passed (standing i s.here d) s.sum)
  pub before : r.before ≡ standing (i + 1) r.here after ‼ i

-- the same of each row
pub record Warped (alpha : Float) (c : List Float) (i n : ℕ) (s : Both) (d : List Float) (r : Both) (after : List Float) : Type 0 where
  pub first : WarpedRow alpha c i s.first (take n d) r.first (take n after)
  pub second : WarpedRow alpha c i s.second (drop n d) r.second (drop n after)

-- one stage on the first row, then one on the second
unfoldable pub both_of : Float → List Float → Passed → Passed
both_of alpha c s =
    let n = length c in
    let a = dff_of alpha c (passed (take n s.d) s.x) in
    let b = dff_of alpha c (passed (drop n s.d) a.x) in
    passed (a.d ++ b.d) b.x

-- alpha 0.5, coefficients [1, 1], rows [1, 2] and [2, 1]: the sample 5 goes through the first as 4 and leaves the second as 2
pub two_rows : both_of ½f (1f ∷ 1f ∷ []) (passed (1f ∷ 2f ∷ 2f ∷ 1f ∷ []) (fin false 5 (pos 0)))
    ≡ passed (fin false 7 (negsuc 0) ∷ fin false 1 (pos 0) ∷ fin false 5 (negsuc 0) ∷ fin false 1 (pos 1) ∷ []) (fin false 1 (pos 1))
unfolding both_of dff_of warped warps pushed of_bits add sub mul
two_rows = refl
