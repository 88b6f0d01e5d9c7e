-- `put_numbers` meets its contract: a part that is put is a run of stores. Assumes nothing.
use Rattle.std.proofs.Common.{length, refl}
use Rattle.number.proofs.Lists.{put_row_sets}
use Rattle.slots.proofs.gather.put_numbers.Goals as goal

pub returns : goal.returns
returns c = rw c.copy_from_slice.ensures.after (put_row_sets c.args.slots.now c.args.values.now c.args.at (length c.args.values.now) refl c.requires)
