-- `is_held` of `Bits24`: `is_held` with the ends of its width. Assumes nothing.
use mathlib.Core.Path.{refl}
use lib.Dec.{lit≤}
use lib.Ieee.{of_bits, neg}
use Rattle.pcm.proofs.Bits24Width.is_held.Goals as goal

pub returns : goal.returns
unfolding of_bits neg
returns c = c.is_held.ensures 23 (record { from = lit≤ tt; upto = lit≤ tt; scaling = refl; bottom = refl; top = refl })
