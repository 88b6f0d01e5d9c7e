-- `chain` meets its contract: what the sections that are left make is what all of them make. Assumes nothing.
use mathlib.Core.Path.{◌≡◌}
use mathlib.Core.List.{◌++◌}
use Prim.Native.Nat.{◌≤◌}
use lib.ListN.{length, take, drop}
use Rattle.number.specs.Lists.{over}
use Rattle.lattice.specs.Lattice.{inputs, output}
use Rattle.lattice.proofs.chain.Given as goal

abbrev pub invariant-loop-i : goal.invariant-loop-i
invariant-loop-i l =
    (l.i ≤ length l.p) × (length l.a1 ≡ length l.initial.a1) × (length l.a2 ≡ length l.initial.a2) × (take l.i l.a1 ++ inputs l.a0 (drop l.i l.p) (drop l.i l.a1) (drop l.i l.a2) ≡ inputs l.x l.p l.initial.a1 l.initial.a2)
    × (output l.a0 (drop l.i l.p) (drop l.i l.a1) (drop l.i l.a2) ≡ output l.x l.p l.initial.a1 l.initial.a2) × (l.a2 ≡ over (take l.i l.initial.a1) l.i l.initial.a2) × (drop l.i l.a1 ≡ drop l.i l.initial.a1)
