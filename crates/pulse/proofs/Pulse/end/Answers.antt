-- `end` meets its contract. Assumes nothing.
use mathlib.Core.Path.{refl}
use Rattle.pulse.specs.Train.{end_of}
use Rattle.pulse.proofs.Pulse.end.Goals as goal

pub returns : goal.returns
unfolding end_of
returns c = refl
