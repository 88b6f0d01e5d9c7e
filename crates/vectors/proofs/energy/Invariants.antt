-- `energy` meets its contract: the terms that are left give what all of them give. Assumes nothing.
use Rattle.std.proofs.Common.{◌≡◌, ◌-◌, length}
use Rattle.number.specs.F64.{◌⊗◌, ◌‼◌}
use Rattle.vectors.specs.Vectors.{sum_from, energy_of}
use Rattle.vectors.proofs.energy.Given as goal

abbrev pub invariant-loop-i : goal.invariant-loop-i
invariant-loop-i l = sum_from (λ j. l.c ‼ j ⊗ l.c ‼ j) l.i (length l.c - l.i) l.sum ≡ energy_of l.c
