-- `gc2gc` meets its contract: the first i entries are made. Assumes nothing.
use mathlib.Core.Path.{◌≡◌}
use Prim.Native.Nat.{◌≤◌}
use lib.ListN.{length}
use Rattle.number.specs.Lists.{over}
use Rattle.vectors.specs.Vectors.{grown}
use Rattle.generalized.specs.Generalized.{gamma_of, gc2gc_entry}
use Rattle.generalized.proofs.gc2gc.Given as goal

abbrev pub invariant-loop-i : goal.invariant-loop-i
invariant-loop-i l = (l.gamma ≡ gamma_of l.s) × (1 ≤ l.i) × (l.i ≤ length l.d) × (length l.d ≤ length l.c) × (length l.d ≤ 65) × (length l.d ≡ length l.initial.d) × (l.d ≡ over (grown (gc2gc_entry l.gamma l.c) l.i) l.i l.initial.d)
