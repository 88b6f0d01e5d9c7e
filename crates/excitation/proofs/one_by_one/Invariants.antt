-- `one_by_one` meets its contract: after i turns the state is that after i samples, and they stand in `out`. Assumes nothing.
use mathlib.Core.Path.{◌≡◌}
use lib.ListN.{length}
use Rattle.history.proofs.StepLaws.{Reached}
use Rattle.noise.specs.Draw.{tries}
use Rattle.excitation.specs.Excitation.{state, step_of}
use Rattle.excitation.proofs.one_by_one.Given as goal

abbrev pub invariant-loop-i : goal.invariant-loop-i
invariant-loop-i l =
    (length l.out ≡ length l.initial.out)
    × Reached (step_of tries l.lpf) l.i (state l.initial.pulse l.initial.random l.initial.line) (state l.pulse l.random l.line) l.out l.initial.out
