-- `bits_of`: a float that equals itself is no NaN, and one that does not is the NaN. Assumes nothing.
use Rattle.std.proofs.Common.{refl}
use lib.Ieee.{to_bits}
use Rattle.number.proofs.Floats.{itself_no_nan, not_itself_nan}
use Rattle.number.proofs.bits.bits_of.Goals as goal

pub float_to_bits-result : goal.float_to_bits-result
float_to_bits-result c = rw (itself_no_nan c.args.x c.if-x.true) tt

pub returns-else-x : goal.returns-else-x
unfolding to_bits
returns-else-x c = rw (not_itself_nan c.args.x c.if-x.false) refl
