-- `decode` meets its contract: what is still to be read. Assumes nothing.
use mathlib.Core.Path.{refl, ◌∙◌}
use Prim.Native.Nat.{◌≤◌, ◌<◌}
use native.Mathlib.Omega.{arith}
use lib.ListN.{length, length-set}
use Rattle.records.proofs.RecordLaws.{values_turn, order_turn, values_end, values_done, order_done}
use Rattle.records.proofs.decode.Goals as goal

pub loop-i-preserved : goal.loop-i-preserved
loop-i-preserved c =
    let n = length c.args.values.now in
    let h : c.loop-i.i < n = omega arith in
    (rw length-set (omega arith), length-set c.loop-i.values c.loop-i.i _ ∙ c.loop-i.invariant.1, rw c.number_at-in-loop-i.ensures (values_turn c.args.bytes.now n c.loop-i.i h c.loop-i.values) ∙ c.loop-i.invariant.2, rw c.number_at.ensures (order_turn c.args.bytes.now n c.loop-i.i h c.loop-i.ordered) ∙ c.loop-i.invariant.3)

pub returns : goal.returns
returns c =
    let n = length c.args.values.now in
    let h : n ≤ c.loop-i.i = omega arith in
    record { value = order_done c.args.bytes.now n c.loop-i.i h c.loop-i.ordered ∙ c.loop-i.invariant.3; values_after = values_done c.args.bytes.now n c.loop-i.i h c.loop-i.values ∙ c.loop-i.invariant.2 ∙ values_end c.args.bytes.now c.args.values.now n refl }
