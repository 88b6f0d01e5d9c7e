-- `predict` meets its contract: what is made, with what the turns that are left make, is what all of them make. Assumes nothing.
use mathlib.Core.Path.{◌≡◌}
use mathlib.Core.List.{◌++◌}
use Prim.Native.Nat.{◌-◌, ◌≤◌}
use lib.ListN.{length, take}
use Rattle.number.specs.F64.{0f, 1f}
use Rattle.lattice.specs.Lattice.{predicted}
use Rattle.lattice.proofs.predict.Given as goal

abbrev pub invariant-loop-k : goal.invariant-loop-k
invariant-loop-k l =
    (l.k ≤ length l.lpc) × (length l.lpc ≡ length l.initial.lpc) × (length l.initial.lpc ≤ 65) × (length l.a1 ≡ length l.initial.a1) × (length l.a2 ≡ length l.initial.a2) × (length l.b1 ≡ length l.initial.b1) × (length l.b2 ≡ length l.initial.b2)
    × (take l.k l.lpc ++ predicted l.odd l.p l.q (length l.initial.lpc - l.k) l.xx l.xf l.xff l.a1 l.a2 l.b1 l.b2 ≡ predicted l.odd l.p l.q (length l.initial.lpc) 1f 0f 0f l.initial.a1 l.initial.a2 l.initial.b1 l.initial.b2)
