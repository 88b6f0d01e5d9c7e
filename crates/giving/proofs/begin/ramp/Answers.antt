-- `ramp` meets its contract: the first i increments are made. Assumes nothing.
use mathlib.Core.Path.{◌∙◌}
use native.Mathlib.Omega.{arith}
use lib.Ieee.{nan}
use lib.ListN.{take, length-set}
use lib.Seq.{take_all}
use Rattle.number.proofs.Lists.{over_known, over_end}
use Rattle.giving.specs.Begin.{increments_of}
use Rattle.giving.proofs.BeginLaws.{increment_at, length_increments}
use Rattle.giving.proofs.begin.ramp.Goals as goal

pub loop-i-preserved : goal.loop-i-preserved
loop-i-preserved c =
    let at = increment_at c.args.fperiod c.args.targets.now c.args.start.now c.loop-i.i (omega arith) c.requires.0 in
    let long = length_increments c.args.fperiod c.args.targets.now c.args.start.now c.requires.0 in
    let more = over_known (increments_of c.args.fperiod c.args.targets.now c.args.start.now) c.args.increments.now c.loop-i.i nan (omega (arith, long)) (omega arith) in
    (simp length-set (omega arith), length-set c.loop-i.increments c.loop-i.i _ ∙ c.loop-i.invariant.1, c.loop-i.invariant.2, rw (c.loop-i.invariant.3, ← at) more)

pub returns : goal.returns
returns c =
    let long = length_increments c.args.fperiod c.args.targets.now c.args.start.now c.requires.0 in
    c.loop-i.invariant.3 ∙ over_end (take c.loop-i.i (increments_of c.args.fperiod c.args.targets.now c.args.start.now)) c.args.increments.now c.loop-i.i (omega arith) ∙ take_all c.loop-i.i (increments_of c.args.fperiod c.args.targets.now c.args.start.now) (omega (arith, long))
