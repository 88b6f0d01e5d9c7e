-- `lost_in` meets its contract. Assumes nothing.
use borrow.Author.Rules.{rules}
use lib.Ieee.{lt}
use Rattle.lost.specs.Lost.{lost_in}
use Rattle.lost.proofs.lost_in.Goals as goal

pub returns : goal.returns
unfolding lt lost_in
returns c = search rules
