-- `two`: its two bytes. Assumes nothing.
use Rattle.std.proofs.Common.{◌+◌, arith}
use Rattle.riff.proofs.ReadingLaws.{field_two}
use Rattle.riff.proofs.reading.two.Goals as goal

pub returns : goal.returns
returns c =
    (omega (arith, field_two c.args.s.now c.args.at c.requires), omega (arith, c.type_inv.s c.args.at, c.type_inv.s (c.args.at + 1)))
