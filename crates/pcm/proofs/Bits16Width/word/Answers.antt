-- `word` of `Bits16`: `word` with the limits of its width. Assumes nothing.
use mathlib.Core.Path.{refl}
use lib.Dec.{lit≤}
use lib.Ieee.{of_bits, neg}
use Rattle.pcm.proofs.Bits16Width.word.Goals as goal

pub word-requires : goal.word-requires
unfolding of_bits neg
word-requires c = (15, record { from = lit≤ tt; upto = lit≤ tt; scaling = refl; bottom = refl; top = refl })

pub returns : goal.returns
unfolding of_bits neg
returns c = c.word.ensures 15 (record { from = lit≤ tt; upto = lit≤ tt; scaling = refl; bottom = refl; top = refl })
