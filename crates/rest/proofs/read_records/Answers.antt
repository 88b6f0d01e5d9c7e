-- `read_records` meets its contract: the tests of the slots that were read. Assumes nothing.
use lib.ListN.{length}
use Rattle.rest.proofs.RestLaws.{read_tests, slots_read}
use Rattle.rest.proofs.read_records.Goals as goal

pub returns : goal.returns
returns c =
    record {
      value = read_tests c.args.bytes.now (length c.args.slots.now) c.requires.0 _ _ _ c.decode-ordered.ensures.value c.decode-ordered.ensures.values_after c.is_sound.ensures;
      slots_after = slots_read c.args.bytes.now (length c.args.slots.now) c.requires.0 _ c.decode-ordered.ensures.values_after;
    }
