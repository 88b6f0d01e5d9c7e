-- `tops` meets its contract: from `left` on every place bounds what comes after it. Assumes nothing.
use mathlib.Core.Path.{◌≡◌}
use Prim.Native.Nat.{◌≤◌}
use lib.ListN.{length}
use Rattle.energies.proofs.TopLaws.{TopsFrom}
use Rattle.energies.proofs.tops.Given as goal

abbrev pub invariant-loop-i : goal.invariant-loop-i
invariant-loop-i l = (l.i ≤ 1152) × (length l.tops ≡ 1152) × TopsFrom l.i l.top l.tops l.w
