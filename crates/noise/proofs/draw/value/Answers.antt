-- `value` meets its contract. Assumes nothing.
use mathlib.Core.Path.{refl}
use Rattle.noise.specs.Draw.{value_of}
use Rattle.noise.proofs.draw.value.Goals as goal

pub returns : goal.returns
unfolding value_of
returns c = refl
