-- `warp` meets its contract: the taps that are left make of the row here what all of them make of it at the start. Assumes nothing.
use mathlib.Core.Path.{◌≡◌}
use Prim.Native.Nat.{◌-◌}
use lib.ListN.{length}
use Rattle.mglsa.specs.Mglsa.{passed, warps}
use Rattle.mglsa.proofs.warp.Given as goal

abbrev pub invariant-loop-i : goal.invariant-loop-i
invariant-loop-i l = warps l.alpha l.c (length l.initial.d - 1 - l.i) l.i (passed l.d l.y) ≡ warps l.alpha l.c (length l.initial.d - 2) 1 (passed l.initial.d l.initial.y)
