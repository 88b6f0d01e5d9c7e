-- `divide_from` meets its contract: what is made of the rest is what is made of all. Assumes nothing.
use mathlib.Core.Path.{◌≡◌}
use mathlib.Core.List.{◌++◌, map}
use lib.ListN.{length, take, drop}
use Rattle.number.specs.F64.{◌⊘◌}
use Rattle.vectors.specs.Vectors.{over_from}
use Rattle.vectors.proofs.divide_from.Given as goal

abbrev pub invariant-loop-i : goal.invariant-loop-i
invariant-loop-i l = (length l.c ≡ length l.initial.c) × (take l.i l.c ++ map (λ x. x ⊘ l.divisor) (drop l.i l.c) ≡ over_from l.first l.divisor l.initial.c)
