-- `cos_of_rests`: the numbers of each are those of the definition. Assumes nothing.
use Rattle.cosine.proofs.Products.{fall_code}
use Rattle.cosine.proofs.sum.cos_of_rests.Goals as goal

pub returns : goal.returns
returns c = (
  fall_code c.args.r.first c.square.result c.inner-p.result.first c.cos_of_square.result c.square.ensures.0 c.inner-p.ensures.first c.cos_of_square.ensures,
  fall_code c.args.r.second c.square-2.result c.inner-p.result.second c.cos_of_square-2.result c.square-2.ensures.0 c.inner-p.ensures.second c.cos_of_square-2.ensures,
)
