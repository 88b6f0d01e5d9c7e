-- `sum` meets its contract: each literal is the float nearest to its fraction. Assumes nothing.
use mathlib.Core.Path.{refl}
use lib.Ieee.{of_bits, round}
use Rattle.elementary.specs.Series.{odd_number}
use Rattle.elementary.specs.Horner.{horner}
use Rattle.logarithm.specs.Ln.{coefficient, sum_of}
use Rattle.logarithm.proofs.sum.Goals as goal

pub returns : goal.returns
unfolding sum_of horner coefficient odd_number of_bits round
returns c = refl
