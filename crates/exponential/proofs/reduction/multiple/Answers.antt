-- `multiple` meets its contract. Assumes nothing.
use Rattle.std.proofs.Common.{refl}
use Rattle.exponential.specs.Exp.{multiples}
use Rattle.exponential.proofs.reduction.multiple.Goals as goal

pub returns : goal.returns
unfolding multiples
returns c = refl
