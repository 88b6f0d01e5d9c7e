-- `next` meets its contract. Assumes nothing.
use mathlib.Core.Path.{refl}
use Rattle.pulse.specs.Train.{pulse_of}
use Rattle.pulse.proofs.Pulse.next.Goals as goal

pub returns-then-counter-pitch : goal.returns-then-counter-pitch
unfolding pulse_of
returns-then-counter-pitch c = rw (c.if-counter-pitch.true, c.sqrt.ensures) refl

pub returns : goal.returns
unfolding pulse_of
returns c = rw c.if-counter-pitch.false refl
