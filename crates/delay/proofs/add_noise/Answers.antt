-- `add_noise` meets its contract. Assumes nothing.
use mathlib.Core.Path.{refl}
use Rattle.delay.specs.Line.{with_noise}
use Rattle.delay.proofs.add_noise.Goals as goal

pub returns : goal.returns
unfolding with_noise
returns c = refl
