-- `by_pieces` meets its contract: after each piece the state is that after the samples that stand in `out`. Assumes nothing.
use mathlib.Core.Path.{◌≡◌}
use Prim.Native.Nat.{◌≤◌}
use lib.ListN.{length}
use Rattle.history.proofs.StepLaws.{Reached}
use Rattle.noise.specs.Draw.{tries}
use Rattle.excitation.specs.Excitation.{state, step_of}
use Rattle.excitation.proofs.window.by_pieces.Given as goal

abbrev pub invariant-loop-i : goal.invariant-loop-i
invariant-loop-i l =
    (l.i ≤ length l.out)
    × (length l.line ≡ length l.initial.line)
    × (length l.out ≡ length l.initial.out)
    × Reached (step_of tries l.lpf) l.i (state l.initial.pulse l.initial.random l.initial.line) (state l.pulse l.random l.line) l.out l.initial.out
