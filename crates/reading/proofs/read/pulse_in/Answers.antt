-- `pulse_in` meets its contract: slot by slot. Assumes nothing.
use mathlib.Core.Path.{refl}
use Rattle.slots.specs.Slots.{pulse_in}
use Rattle.reading.proofs.read.pulse_in.Goals as goal

pub returns : goal.returns
unfolding pulse_in
returns c = rw (c.float_of.ensures, c.float_of-2.ensures, c.float_of-3.ensures, c.float_of-4.ensures) refl
