-- `wrapping_mul`: the products of halves fit, and make the product. Assumes nothing.
use Rattle.std.proofs.Common.{◌∙◌}
use Rattle.number.proofs.Modulo.{product_of_halves}
use Rattle.number.proofs.wrapping.wrapping_mul.Goals as goal

pub returns : goal.returns
returns c = c.wrapping_add.ensures ∙ rw c.wrapping_add-cross.ensures (product_of_halves c.args.a c.args.b)
