-- `prepare` meets its contract. Assumes nothing.
use mathlib.Core.Path.{◌≡◌}
use Rattle.filter.specs.Zero.{on_by, Prepared}
use Rattle.filter.proofs.gains.prepare.Given as goal

abbrev pub invariant-loop-i : goal.invariant-loop-i
invariant-loop-i l =
    (l.c0 ≡ on_by l.increment l.start l.i) × Prepared l.increment l.start l.i l.rests l.powers
