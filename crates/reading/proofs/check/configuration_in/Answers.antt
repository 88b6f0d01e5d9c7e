-- `configuration_in` meets its contract: slot by slot. Assumes nothing.
use mathlib.Core.Path.{refl}
use Rattle.slots.specs.Slots.{configuration_in}
use Rattle.reading.proofs.check.configuration_in.Goals as goal

pub returns : goal.returns
unfolding configuration_in
returns c = rw (c.is_set.ensures, c.float_of.ensures, c.float_of-2.ensures, c.float_of-3.ensures, c.float_of-4.ensures, c.float_of-5.ensures, c.float_of-6.ensures) refl
