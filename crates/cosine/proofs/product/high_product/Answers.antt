-- `high_product`: the sums of products of halves fit, and make the upper word. Assumes nothing.
use Rattle.cosine.proofs.Words.{high_of_halves}
use Rattle.cosine.proofs.product.high_product.Goals as goal
use Rattle.cosine.proofs.product.high_product.Goals.{Start}

pub returns : goal.returns
returns c = high_of_halves c.args.a c.args.b
