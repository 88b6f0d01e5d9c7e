-- `float_of`: the whole number is at most 2 ^ 53, and the product is exact. Assumes nothing.
use Rattle.std.proofs.Common.{◌+◌, ◌/◌, arith}
use lib.Ieee.{of_bits}
use Rattle.cosine.specs.Cos.{float_of}
use Rattle.cosine.proofs.Products.{over-2^51}
use Rattle.cosine.proofs.sum.float_of.Goals as goal

pub returns : goal.returns
unfolding float_of of_bits
returns c = over-2^51 ((c.args.n + 128) / 256) (omega arith)
