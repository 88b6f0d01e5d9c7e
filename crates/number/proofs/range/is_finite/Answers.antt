-- `is_finite`: 1 / 0 is the infinity, and what lies strictly between the infinities is finite. Assumes nothing.
use Rattle.std.proofs.Common.{◌∙◌}
use lib.Ieee.{div, neg, of_bits}
use Rattle.number.proofs.Floats.{between_infinities}
use Rattle.number.proofs.range.is_finite.Goals as goal

pub returns : goal.returns
unfolding div neg of_bits
returns c = c.strictly_within.ensures ∙ between_infinities c.args.x
