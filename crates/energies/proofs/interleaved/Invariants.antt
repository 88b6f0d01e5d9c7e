-- `interleaved` meets its contract: the first i entries of both are in their places. Assumes nothing.
use mathlib.Core.Path.{◌≡◌}
use Prim.Native.Nat.{◌≤◌}
use lib.ListN.{length, take, replicate}
use Rattle.number.specs.F64.{0f}
use Rattle.number.specs.Lists.{over}
use Rattle.energies.proofs.PairLaws.{Paired}
use Rattle.energies.proofs.interleaved.Given as goal

abbrev pub invariant-loop-i : goal.invariant-loop-i
invariant-loop-i l = (l.i ≤ 576) × (length l.both ≡ 1152) × Paired l.both (over (take l.i l.one) l.i (replicate 576 0f)) (over (take l.i l.other) l.i (replicate 576 0f))
