-- `lane_back` meets its contract: the first i taps are those of the lane, the others as they were. Assumes nothing.
use mathlib.Core.Path.{refl}
use native.Mathlib.Omega.{arith}
use lib.ListN.{length}
use Rattle.mlsa.proofs.LayoutLaws.{back_turn, back_end}
use Rattle.mlsa.proofs.layout.lane_back.Goals as goal

pub loop-i-preserved : goal.loop-i-preserved
loop-i-preserved c =
    back_turn c.args.k (length c.args.out.now) c.loop-i.i c.args.pair.now c.loop-i.out c.args.out.now refl c.loop-i.invariant (omega arith)

pub returns : goal.returns
returns c =
    back_end c.args.k (length c.args.out.now) c.loop-i.i c.args.pair.now c.loop-i.out c.args.out.now refl c.loop-i.invariant (omega arith)
