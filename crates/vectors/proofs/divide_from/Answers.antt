-- `divide_from` meets its contract: what is made of the rest is what is made of all. Assumes nothing.
use mathlib.Core.Path.{refl}
use Rattle.vectors.specs.Vectors.{over_from}
use Rattle.vectors.proofs.divide_from.Goals as goal

pub loop-i-init : goal.loop-i-init
unfolding over_from
loop-i-init c = (refl, refl)
