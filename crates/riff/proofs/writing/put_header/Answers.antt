-- `put_header`: its words are the header's bytes. Assumes nothing.
use Rattle.riff.proofs.WritingLaws.{header_stored}
use Rattle.riff.proofs.writing.put_header.Goals as goal

pub returns : goal.returns
returns c =
    header_stored c.args.width c.args.rate c.args.n _ _ c.args.out.now _ c.bytes_in-k.ensures.0 c.requires.1 c.put_words.ensures
