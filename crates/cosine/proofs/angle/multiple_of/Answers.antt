-- `multiple_of`: the lower word of a sum is that of the lower words. Assumes nothing.
use Rattle.std.proofs.Common.{◌*◌, ◌/◌, ◌^◌}
use Rattle.cosine.specs.Cos.{turn, multiple}
use Rattle.cosine.proofs.Words.{lower_sum}
use Rattle.cosine.proofs.angle.multiple_of.Goals as goal

pub returns : goal.returns
unfolding multiple
returns c = lower_sum (c.args.k * turn) (c.args.k * 13522270992397 / 2 ^ 46)
