-- `two_stages` meets its contract: the two rows lie side by side. Assumes nothing.
use Rattle.mglsa.proofs.PairLaws.{two_stages_of}
use Rattle.mglsa.proofs.pair.two_stages.Goals as goal

pub returns : goal.returns
returns c =
    two_stages_of c.args.alpha c.args.c.now c.args.d.now c.args.i c.args.x c.requires.1 _ _ c.dff_both.ensures
