-- `multiply_from` meets its contract: what is made of the rest is what is made of all. Assumes nothing.
use mathlib.Core.Path.{◌≡◌}
use mathlib.Core.List.{◌++◌, map}
use lib.ListN.{length, take, drop}
use Rattle.number.specs.F64.{◌⊗◌}
use Rattle.vectors.specs.Vectors.{times_from}
use Rattle.vectors.proofs.multiply_from.Given as goal

abbrev pub invariant-loop-i : goal.invariant-loop-i
invariant-loop-i l = (length l.c ≡ length l.initial.c) × (take l.i l.c ++ map (λ x. x ⊗ l.factor) (drop l.i l.c) ≡ times_from l.first l.factor l.initial.c)
