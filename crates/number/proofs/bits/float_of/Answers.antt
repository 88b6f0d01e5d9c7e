-- `float_of`: up to an infinity's pattern there is no NaN, and above it every pattern is one. Assumes nothing.
use Rattle.std.proofs.Common.{sym, arith}
use lib.Ieee.{div, of_bits}
use Rattle.number.proofs.BitLaws.{below_no_nan, above_nan, nan_of_bits}
use Rattle.number.proofs.bits.float_of.Goals as goal

pub float_from_bits-result : goal.float_from_bits-result
float_from_bits-result c = rw (below_no_nan c.args.b (omega arith)) tt

pub returns-else-b-le9218868437227405312 : goal.returns-else-b-le9218868437227405312
unfolding div of_bits
returns-else-b-le9218868437227405312 c = sym (nan_of_bits c.args.b (above_nan c.args.b (omega arith)))
