-- `group` meets its contract: each lane has its four taps. Assumes nothing.
use Prim.Native.Nat.{◌+◌}
use native.Mathlib.Omega.{arith}
use lib.ListN.{length}
use Rattle.lanes.specs.Lane.{lane}
use Rattle.lanes.proofs.LaneLaws.{each_lane}
use Rattle.lanes.proofs.TapLaws.{pair_read, four_put, group_stored}
use Rattle.lanes.proofs.group.Goals as goal

pub returns : goal.returns
returns c =
    let n = length c.args.c.now in
    let read0 = pair_read n c.args.i c.args.d.now _ c.at-d0.ensures (omega arith) in
    let read1 = pair_read n (c.args.i + 1) c.args.d.now _ c.at-d1.ensures (omega arith) in
    let read2 = pair_read n (c.args.i + 2) c.args.d.now _ c.at-d2.ensures (omega arith) in
    let read3 = pair_read n (c.args.i + 3) c.args.d.now _ c.at-d3.ensures (omega arith) in
    let stored = four_put n c.args.i c.args.d.now _ _ _ _ _ _ _ _ c.put.ensures c.put-2.ensures c.put-3.ensures c.put-4.ensures c.requires.0 c.requires.1 in
    each_lane _
    (group_stored _ c.args.c.now (lane 0 n c.args.d.now) _ c.args.i _ _ _ _ _ _ _ (read0 0 (omega arith)) (read1 0 (omega arith)) (read2 0 (omega arith)) (read3 0 (omega arith)) (stored 0 (omega arith)) c.next_four-ma.ensures)
    (group_stored _ c.args.c.now (lane 1 n c.args.d.now) _ c.args.i _ _ _ _ _ _ _ (read0 1 (omega arith)) (read1 1 (omega arith)) (read2 1 (omega arith)) (read3 1 (omega arith)) (stored 1 (omega arith)) c.next_four-mb.ensures)
