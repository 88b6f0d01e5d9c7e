-- `step` meets its contract: it is the definition's eight sums. Assumes nothing.
use mathlib.Core.Path.{refl}
use Rattle.wave.specs.Wave.{outputs}
use Rattle.wave.proofs.step.Goals as goal

pub returns : goal.returns
unfolding outputs
returns c = (refl, refl)
