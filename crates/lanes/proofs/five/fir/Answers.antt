-- `fir` meets its contract: the first two taps of each row, the groups, and the taps one by one. Assumes nothing.
use mathlib.Core.Path.{◌≡◌, ap}
use Prim.Native.Nat.{ℕ, ◌<◌}
use native.Mathlib.Omega.{arith}
use lib.ListN.{length}
use Rattle.number.specs.F64.{◌⊕◌}
use Rattle.fir.specs.Fir.{Taps, Filtered, fir_of}
use Rattle.fir.proofs.FirLaws.{taps_by}
use Rattle.lanes.specs.Rows.{row_at, number_at, taps_at}
use Rattle.lanes.proofs.RowLaws.{each_row, length_row_at}
use Rattle.lanes.proofs.five.fir.Goals as goal

-- the taps after it, and the sum of the two running sums
abbrev filtered : Taps → Filtered
filtered t = record { d = t.d; y = t.on.y0 ⊕ t.on.y1 }

pub returns : goal.returns
unfolding fir_of
returns c =
    let n = length c.args.c.now in
    let made : (k : ℕ) → k < 5 → filtered (taps_at k n c.singles-s.new.first c.singles-s.new.second c.singles-s.new.last c.singles-s.result)
    ≡ fir_of c.args.alpha (number_at k c.args.x) c.args.c.now (row_at k n c.args.first.now c.args.second.now c.args.last.now) =
    λ k h. ap filtered (taps_by _ _ _ (row_at k n c.args.first.now c.args.second.now c.args.last.now) n _ _ _ (length_row_at n c.args.first.now c.args.second.now c.args.last.now c.requires.3 k h) c.requires.0 (c.start_all-begun.ensures k h) (c.groups-grouped.ensures k h) (c.singles-s.ensures k h)) in
    each_row _ (made 0 (omega arith)) (made 1 (omega arith)) (made 2 (omega arith)) (made 3 (omega arith)) (made 4 (omega arith))
