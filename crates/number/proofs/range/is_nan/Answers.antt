-- `is_nan`: only the NaN differs from itself. Assumes nothing.
use Rattle.number.proofs.Floats.{differs_is_nan}
use Rattle.number.proofs.range.is_nan.Goals as goal

pub returns : goal.returns
returns c = differs_is_nan c.args.x
