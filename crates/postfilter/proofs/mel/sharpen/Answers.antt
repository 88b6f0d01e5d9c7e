-- `sharpen` meets its contract. Assumes nothing.
use Rattle.postfilter.specs.Mel.{sharpened_of}
use Rattle.postfilter.proofs.mel.sharpen.Goals as goal

pub returns : goal.returns
unfolding sharpened_of
returns c = c.multiply_from.ensures
