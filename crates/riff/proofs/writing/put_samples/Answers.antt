-- `put_samples`: the part that is lent comes back with the samples' bytes. Assumes nothing.
use Rattle.pcm.specs.Sample.{word_of}
use Rattle.riff.proofs.WritingLaws.{sound_stored}
use Rattle.riff.proofs.writing.put_samples.Goals as goal

pub returns-in-Sixteen-clause-bytes : goal.returns-in-Sixteen-clause-bytes
returns-in-Sixteen-clause-bytes c =
    rw (c.bytes_in.ensures.0, c.in-Sixteen.is)
    (sound_stored c.args.out.now c.args.at 2 (word_of 16) c.args.samples.now c.put.new.out c.put.ensures.bytes (rw c.in-Sixteen.is at c.requires))

pub returns-in-TwentyFour-clause-bytes : goal.returns-in-TwentyFour-clause-bytes
returns-in-TwentyFour-clause-bytes c =
    rw (c.bytes_in.ensures.0, c.in-TwentyFour.is)
    (sound_stored c.args.out.now c.args.at 3 (word_of 24) c.args.samples.now c.put-in-TwentyFour.new.out c.put-in-TwentyFour.ensures.bytes (rw c.in-TwentyFour.is at c.requires))
