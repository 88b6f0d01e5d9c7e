-- `lay_pair` meets its contract: the first i taps of each lane are those of its row. Assumes nothing.
use Prim.Native.Nat.{◌+◌, ◌*◌, ◌≤◌}
use native.Mathlib.Omega.{arith}
use lib.ListN.{length}
use Rattle.lanes.specs.Lane.{lane}
use Rattle.lanes.proofs.LaneLaws.{length_lane}
use Rattle.mlsa.proofs.MlsaLaws.{rows_from}
use Rattle.mlsa.proofs.LayoutLaws.{lay_turn, lay_end}
use Rattle.mlsa.proofs.layout.lay_pair.Goals as goal

pub loop-i-preserved : goal.loop-i-preserved
loop-i-preserved c k h =
    let fits : c.args.from + 2 * c.args.n ≤ length c.args.d21.now = c.requires.1 in
    lay_turn c.args.n c.loop-i.i (c.args.from + k * c.args.n) (lane k c.args.n c.loop-i.pair) _ c.args.d21.now (length_lane k c.args.n c.loop-i.pair) (omega arith) (rows_from 2 k c.args.n c.args.from (length c.args.d21.now) h fits) (c.loop-i.invariant k h) (c.lay_tap.ensures k h)

pub returns : goal.returns
returns c k h =
    lay_end k c.args.n c.loop-i.i (c.args.from + k * c.args.n) c.loop-i.pair c.args.d21.now (omega arith) (c.loop-i.invariant k h)
