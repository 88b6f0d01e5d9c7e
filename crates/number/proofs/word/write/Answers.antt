-- `write`: std's eight bytes of a number are ours, put as a row. Assumes nothing.
use Rattle.std.proofs.Common.{◌∙◌, sym}
use Rattle.number.proofs.ByteLaws.{as_row, le_bytes}
use Rattle.number.proofs.word.write.Goals as goal

pub returns : goal.returns
returns c = rw (c.copy_from_slice.ensures.after ∙ c.to_le_bytes.ensures ∙ le_bytes c.args.v) (sym (as_row c.args.s.now c.args.at 8 c.args.v))
