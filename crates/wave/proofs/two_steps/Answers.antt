-- `two_steps` meets its contract: it is the definition's sixteen sums. Assumes nothing.
use mathlib.Core.Path.{refl}
use Rattle.wave.specs.Wave.{outputs}
use Rattle.wave.proofs.two_steps.Goals as goal

pub returns : goal.returns
unfolding outputs
returns c = (refl, refl, refl)
