-- `polynomial` meets its contract: both are one chain of products and sums. Assumes nothing.
use Rattle.std.proofs.Common.{refl}
use Rattle.elementary.specs.Horner.{horner}
use Rattle.exponential.specs.Exp.{coefficients}
use Rattle.exponential.proofs.polynomial.polynomial.Goals as goal

pub returns : goal.returns
unfolding horner coefficients
returns c = refl
