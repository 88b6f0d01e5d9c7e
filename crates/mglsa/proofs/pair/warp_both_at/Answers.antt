-- `warp_both_at` meets its contract: a store in either row leaves the other as it was. Assumes nothing.
use Rattle.mglsa.proofs.PairLaws.{warped_both}
use Rattle.mglsa.proofs.pair.warp_both_at.Goals as goal

pub returns : goal.returns
returns c =
    rw (c.on.ensures, c.on-2.ensures, c.between-first.ensures, c.between-second.ensures) (warped_both c.args.alpha c.args.c.now c.args.d.now c.args.i c.args.n c.args.s c.requires.0 c.requires.1 c.requires.2 c.requires.4 c.requires.5)
