-- `copy` meets its contract: the first i entries are copied. Assumes nothing.
use Rattle.std.proofs.Common.{◌∙◌, take, arith}
use lib.Ieee.{nan}
use lib.Seq.{take_all}
use Rattle.number.proofs.Lists.{over_known, over_end}
use Rattle.vectors.proofs.copy.Goals as goal

pub loop-i-preserved : goal.loop-i-preserved
loop-i-preserved c =
    rw c.loop-i.invariant (over_known c.args.from.now c.args.to.now c.loop-i.i nan (omega arith) (omega arith))

pub returns : goal.returns
returns c =
    c.loop-i.invariant ∙ over_end (take c.loop-i.i c.args.from.now) c.args.to.now c.loop-i.i (omega arith) ∙ take_all c.loop-i.i c.args.from.now (omega arith)
