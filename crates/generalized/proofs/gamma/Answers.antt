-- `gamma` meets its contract. Assumes nothing.
use mathlib.Core.Path.{refl}
use Rattle.generalized.specs.Generalized.{gamma_of}
use Rattle.generalized.proofs.gamma.Goals as goal

pub returns : goal.returns
unfolding gamma_of
returns c = refl
