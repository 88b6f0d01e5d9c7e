-- `put_words`: storing the words from i on gives what storing all of them gives. Assumes nothing.
use Rattle.std.proofs.Common.{◌∙◌, sym, arith}
use Rattle.riff.proofs.WritingLaws.{words_turn, words_end}
use Rattle.riff.proofs.writing.put_words.Goals as goal

pub loop-i-preserved : goal.loop-i-preserved
loop-i-preserved c =
    words_turn c.args.words.now c.loop-i.i c.loop-i.out _ _ (omega arith) (omega arith) c.to_le_bytes.ensures c.copy_from_slice.ensures.after ∙ c.loop-i.invariant

pub returns : goal.returns
returns c =
    sym (words_end c.args.words.now c.loop-i.i c.loop-i.out (omega arith)) ∙ c.loop-i.invariant
