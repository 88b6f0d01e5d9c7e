-- `cos_of_square` meets its contract: a quotient of a quotient is one quotient, and what it leaves of 1 has room. Assumes nothing.
use Rattle.std.proofs.Common.{◌≡◌, ◌*◌, ◌/◌}
use Rattle.cosine.specs.Cos.{one}
use Rattle.cosine.proofs.Products.{half_is, one_less_below, one_less_above}
use Rattle.cosine.proofs.sum.cos_of_square.Goals as goal
use Rattle.cosine.proofs.sum.cos_of_square.Goals.{After-times-fall}

fall : (c : After-times-fall) → c.times-fall.result / 2 ≡ c.args.a * c.args.p / (one * 2)
fall c = half_is c.args.a c.args.p c.times-fall.result c.times-fall.ensures

pub returns-then-fall-gt576460752303423488 : goal.returns-then-fall-gt576460752303423488
returns-then-fall-gt576460752303423488 c = one_less_below _ (c.times-fall.result / 2) c.float_of.result (fall (goal.at.returns-then-fall-gt576460752303423488 c).After-times-fall) c.if-fall-gt576460752303423488.true c.float_of.ensures

pub returns-else-fall-gt576460752303423488 : goal.returns-else-fall-gt576460752303423488
returns-else-fall-gt576460752303423488 c = one_less_above _ (c.times-fall.result / 2) c.float_of-else-fall-gt576460752303423488.result (fall (goal.at.returns-else-fall-gt576460752303423488 c).After-times-fall) c.if-fall-gt576460752303423488.false c.float_of-else-fall-gt576460752303423488.ensures
