-- `answer`: by its test. Assumes nothing.
use Rattle.std.proofs.Common.{refl, arith}
use Rattle.riff.proofs.ReadingLaws.{hears_all}
use Rattle.riff.proofs.reading.answer.Goals as goal

pub returns-in-Sixteen : goal.returns-in-Sixteen
returns-in-Sixteen c =
    hears_all c.args.f c.args.s.now c.args.out.now c.args.f.format.width c.bits_in.result c.bytes_in.result _ refl c.bits_in.ensures c.bytes_in.ensures.0 (omega arith) (rw c.in-Sixteen.is c.fill.ensures)

pub returns-in-TwentyFour : goal.returns-in-TwentyFour
returns-in-TwentyFour c =
    hears_all c.args.f c.args.s.now c.args.out.now c.args.f.format.width c.bits_in.result c.bytes_in.result _ refl c.bits_in.ensures c.bytes_in.ensures.0 (omega arith) (rw c.in-TwentyFour.is c.fill-in-TwentyFour.ensures)
