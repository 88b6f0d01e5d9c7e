-- `times`: both factors are small enough to be moved up. Assumes nothing.
use Rattle.cosine.proofs.Products.{times_is}
use Rattle.cosine.proofs.sum.times.Goals as goal

pub returns : goal.returns
returns c = times_is c.args.a c.args.p c.high_product.result c.requires.0 c.requires.1 c.high_product.ensures
