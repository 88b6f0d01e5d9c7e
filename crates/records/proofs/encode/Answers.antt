-- `encode` meets its contract: what is still to be written. Assumes nothing.
use mathlib.Core.Path.{◌∙◌, ap, sym}
use Prim.Native.Nat.{◌*◌}
use native.Mathlib.Omega.{arith}
use lib.ListN.{length, get_or}
use lib.Seq.{length-sets}
use Rattle.records.specs.Records.{slot, record_of}
use Rattle.records.proofs.RecordLaws.{encode_turn, encode_end}
use Rattle.records.proofs.encode.Goals as goal

pub loop-i-preserved : goal.loop-i-preserved
loop-i-preserved c =
    (omega arith, ap length c.put_record.ensures ∙ length-sets c.loop-i.out (16 * c.loop-i.i) (record_of (slot c.loop-i.i (get_or c.args.values.now c.loop-i.i 0))) ∙ c.loop-i.invariant.1, rw c.put_record.ensures (encode_turn c.args.values.now c.loop-i.out c.loop-i.i (omega arith)) ∙ c.loop-i.invariant.2)

pub returns : goal.returns
returns c = sym (encode_end c.args.values.now c.loop-i.out c.loop-i.i (omega arith)) ∙ c.loop-i.invariant.2
