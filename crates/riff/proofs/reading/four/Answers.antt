-- `four`: its four bytes. Assumes nothing.
use Rattle.std.proofs.Common.{◌+◌, arith}
use Rattle.riff.proofs.ReadingLaws.{field_four}
use Rattle.riff.proofs.reading.four.Goals as goal

pub returns : goal.returns
returns c =
    (omega (arith, field_four c.args.s.now c.args.at c.requires), omega (arith, c.type_inv.s c.args.at, c.type_inv.s (c.args.at + 1), c.type_inv.s (c.args.at + 2), c.type_inv.s (c.args.at + 3)))
