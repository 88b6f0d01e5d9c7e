-- `square` meets its contract: the factors are small enough to be moved up. Assumes nothing.
use Rattle.cosine.proofs.Products.{square_is, small_square}
use Rattle.cosine.proofs.sum.square.Goals as goal

pub returns : goal.returns
returns c =
    let e = square_is c.args.r c.high_product.result c.requires c.high_product.ensures in
    (e, small_square c.args.r c.high_product.result c.requires e)
