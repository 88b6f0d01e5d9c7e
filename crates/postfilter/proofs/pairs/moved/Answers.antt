-- `moved` meets its contract. Assumes nothing.
use mathlib.Core.Path.{refl}
use Rattle.postfilter.specs.Pairs.{moved_of}
use Rattle.postfilter.proofs.pairs.moved.Goals as goal

pub returns : goal.returns
unfolding moved_of
returns c = refl
