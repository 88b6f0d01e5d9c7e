-- `add` meets its contract: what is done, and then the rest added, is the whole. Assumes nothing.
use mathlib.Core.Path.{sym, ◌∙◌}
use native.Mathlib.Omega.{arith}
use lib.ListN.{length-set}
use Rattle.vectors.proofs.VectorLaws.{plus_turn, plus_done}
use Rattle.vectors.proofs.add.Goals as goal

pub loop-i-preserved : goal.loop-i-preserved
loop-i-preserved c =
    (simp length-set (omega arith), simp length-set (omega arith), plus_turn c.loop-i.c c.args.other.now c.loop-i.i (omega arith) (omega arith) ∙ c.loop-i.invariant.2)

pub returns : goal.returns
returns c =
    sym (plus_done c.loop-i.c c.args.other.now c.loop-i.i (omega arith)) ∙ c.loop-i.invariant.2
