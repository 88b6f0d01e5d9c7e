-- `add_each` meets its contract: what the rest of the turns makes of the line is what all of them make. Assumes nothing.
use mathlib.Core.Path.{sym, ◌∙◌}
use native.Mathlib.Omega.{arith}
use lib.ListN.{length-set}
use Rattle.delay.proofs.LineLaws.{pulse_turn, pulse_end}
use Rattle.delay.proofs.add_each.Goals as goal

pub loop-k-preserved : goal.loop-k-preserved
loop-k-preserved c =
    (length-set c.loop-k.line c.loop-k.k _ ∙ c.loop-k.invariant.0, pulse_turn c.args.c c.args.lpf.now c.loop-k.line c.loop-k.k (omega arith) (omega arith) ∙ c.loop-k.invariant.1)

pub returns : goal.returns
returns c =
    sym (pulse_end c.args.c c.args.lpf.now c.loop-k.line c.loop-k.k (omega arith)) ∙ c.loop-k.invariant.1
