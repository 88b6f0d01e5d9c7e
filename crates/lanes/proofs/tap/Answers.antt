-- `tap` meets its contract: each lane has its tap. Assumes nothing.
use native.Mathlib.Omega.{arith}
use lib.ListN.{length}
use Rattle.lanes.specs.Lane.{lane}
use Rattle.lanes.proofs.LaneLaws.{each_lane}
use Rattle.lanes.proofs.TapLaws.{pair_read, pair_put, tap_stored}
use Rattle.lanes.proofs.tap.Goals as goal

pub returns : goal.returns
returns c =
    let n = length c.args.c.now in
    let read = pair_read n c.args.i c.args.d.now _ c.at-d0.ensures c.requires.0 in
    let stored = pair_put n c.args.i c.args.d.now _ _ c.put.ensures c.requires.0 c.requires.1 in
    each_lane _
    (tap_stored _ c.args.c.now (lane 0 n c.args.d.now) _ c.args.i _ _ _ _ (read 0 (omega arith)) (stored 0 (omega arith)) c.next_one-ma.ensures)
    (tap_stored _ c.args.c.now (lane 1 n c.args.d.now) _ c.args.i _ _ _ _ (read 1 (omega arith)) (stored 1 (omega arith)) c.next_one-mb.ensures)
