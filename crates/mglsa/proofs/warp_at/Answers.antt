-- `warp_at` meets its contract. Assumes nothing.
use mathlib.Core.Path.{refl}
use Rattle.mglsa.specs.Mglsa.{warp_at}
use Rattle.mglsa.proofs.warp_at.Goals as goal

pub returns : goal.returns
unfolding warp_at
returns c = refl
