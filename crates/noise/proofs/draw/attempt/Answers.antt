-- `attempt` meets its contract. Assumes nothing.
use mathlib.Core.Path.{refl}
use Rattle.noise.specs.Draw.{try_of}
use Rattle.noise.proofs.draw.attempt.Goals as goal

pub returns : goal.returns
unfolding try_of
returns c =
    rw (c.value.ensures, c.value-2.ensures, c.draw-second.ensures, c.draw-first.ensures) refl
