-- `first_row` meets its contract. Assumes nothing.
use mathlib.Core.Path.{refl}
use Rattle.mlsa.specs.Mlsa.{first_row}
use Rattle.mlsa.proofs.first_row.Goals as goal

pub returns : goal.returns
unfolding first_row
returns c = rw c.weigh.ensures refl
