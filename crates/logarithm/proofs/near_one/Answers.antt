-- `near_one` meets its contract. Assumes nothing.
use Rattle.logarithm.specs.Ln.{near_one}
use Rattle.logarithm.proofs.near_one.Goals as goal

pub returns : goal.returns
unfolding near_one
returns c = rw c.sum.ensures
