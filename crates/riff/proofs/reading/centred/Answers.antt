-- `centred`: the law on the machine. Assumes nothing.
use Rattle.riff.proofs.ReadingLaws.{centred_is}
use Rattle.riff.proofs.reading.centred.Goals as goal

pub returns : goal.returns
returns c = (centred_is c.args.half c.args.w c.requires.0 c.requires.1 c.requires.2).1
