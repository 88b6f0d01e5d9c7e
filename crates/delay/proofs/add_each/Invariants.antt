-- `add_each` meets its contract: what the rest of the turns makes of the line is what all of them make. Assumes nothing.
use mathlib.Core.Path.{◌≡◌}
use mathlib.Core.List.{◌++◌}
use lib.ListN.{length, take, drop}
use Rattle.delay.specs.Line.{with_pulse}
use Rattle.delay.proofs.add_each.Given as goal

abbrev pub invariant-loop-k : goal.invariant-loop-k
invariant-loop-k l = (length l.line ≡ length l.initial.line) × (take l.k l.line ++ with_pulse l.c (drop l.k l.lpf) (drop l.k l.line) ≡ with_pulse l.c l.lpf l.initial.line)
