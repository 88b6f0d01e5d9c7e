-- `multiply_from` meets its contract: what is made of the rest is what is made of all. Assumes nothing.
use mathlib.Core.Path.{refl}
use Rattle.vectors.specs.Vectors.{times_from}
use Rattle.vectors.proofs.multiply_from.Goals as goal

pub loop-i-init : goal.loop-i-init
unfolding times_from
loop-i-init c = (refl, refl)
