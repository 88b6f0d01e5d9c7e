-- `add` meets its contract: what is done, and then the rest added, is the whole. Assumes nothing.
use mathlib.Core.Path.{◌≡◌}
use mathlib.Core.List.{◌++◌}
use Prim.Native.Nat.{◌≤◌}
use lib.ListN.{length, take, drop}
use Rattle.vectors.specs.Vectors.{plus}
use Rattle.vectors.proofs.add.Given as goal

abbrev pub invariant-loop-i : goal.invariant-loop-i
invariant-loop-i l = (l.i ≤ length l.c) × (length l.c ≡ length l.initial.c) × (take l.i l.c ++ plus (drop l.i l.c) (drop l.i l.other) ≡ plus l.initial.c l.other)
