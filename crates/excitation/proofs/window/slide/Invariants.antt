-- `slide` meets its contract: after i turns the state is that after i samples, its line standing at i, with only zeros past it. Assumes nothing.
use mathlib.Core.Path.{◌≡◌}
use Prim.Native.Nat.{◌+◌}
use lib.ListN.{length}
use Rattle.history.proofs.StepLaws.{Reached}
use Rattle.noise.specs.Draw.{tries}
use Rattle.excitation.specs.Excitation.{state, step_of}
use Rattle.excitation.specs.Window.{line_at, ZeroFrom}
use Rattle.excitation.proofs.window.slide.Given as goal

abbrev pub invariant-loop-i : goal.invariant-loop-i
invariant-loop-i l =
    (length l.window ≡ length l.initial.window)
    × (length l.out ≡ length l.initial.out)
    × ZeroFrom (l.i + l.taps) l.window
    × Reached (step_of tries l.lpf) l.i (state l.initial.pulse l.initial.random (line_at 0 l.taps l.initial.window)) (state l.pulse l.random (line_at l.i l.taps l.window)) l.out l.initial.out
