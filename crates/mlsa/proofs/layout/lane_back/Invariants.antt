-- `lane_back` meets its contract: the first i taps are those of the lane, the others as they were. Assumes nothing.
use mathlib.Core.Path.{◌≡◌}
use lib.ListN.{length, take}
use Rattle.number.specs.Lists.{over}
use Rattle.lanes.specs.Lane.{lane}
use Rattle.mlsa.proofs.layout.lane_back.Given as goal

abbrev pub invariant-loop-i : goal.invariant-loop-i
invariant-loop-i l = l.out ≡ over (take l.i (lane l.k (length l.initial.out) l.pair)) l.i l.initial.out
