-- `start` meets its contract: each lane has its first two taps. Assumes nothing.
use native.Mathlib.Omega.{arith}
use Rattle.lanes.specs.Lane.{lane}
use Rattle.lanes.proofs.LaneLaws.{each_lane}
use Rattle.lanes.proofs.TapLaws.{pair_read, two_put, start_stored}
use Rattle.lanes.proofs.start.Goals as goal

pub returns : goal.returns
returns c =
    let read = pair_read c.args.n 1 c.args.d.now _ c.at-d1.ensures c.requires.0 in
    let stored = two_put c.args.n 0 c.args.d.now _ _ _ _ c.put.ensures c.put-2.ensures c.requires.0 c.requires.1 in
    each_lane _
    (start_stored _ _ (lane 0 c.args.n c.args.d.now) _ _ _ _ (read 0 (omega arith)) (stored 0 (omega arith)) c.first_two-ma.ensures)
    (start_stored _ _ (lane 1 c.args.n c.args.d.now) _ _ _ _ (read 1 (omega arith)) (stored 1 (omega arith)) c.first_two-mb.ensures)
