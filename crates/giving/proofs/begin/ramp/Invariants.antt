-- `ramp` meets its contract: the first i increments are made. Assumes nothing.
use mathlib.Core.Path.{◌≡◌}
use Prim.Native.Nat.{◌≤◌}
use lib.ListN.{length, take}
use Rattle.number.proofs.Lists.{over}
use Rattle.giving.specs.Begin.{increments_of}
use Rattle.giving.proofs.begin.ramp.Given as goal

abbrev pub invariant-loop-i : goal.invariant-loop-i
invariant-loop-i l = (l.i ≤ length l.increments) × (length l.increments ≡ length l.targets) × (length l.initial.increments ≡ length l.targets) × (l.increments ≡ over (take l.i (increments_of l.fperiod l.targets l.start)) l.i l.initial.increments)
