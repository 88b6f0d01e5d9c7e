-- `dff_both` meets its contract: each row by its taps, its sum and the stores after the loop. Assumes nothing.
use native.Mathlib.Omega.{arith}
use Rattle.mglsa.proofs.PairLaws.{both_made}
use Rattle.mglsa.proofs.pair.dff_both.Goals as goal

pub returns : goal.returns
returns c =
    both_made c.args.alpha c.args.c.now c.args.d.now c.warp_both-s.new.d c.warp_both-s.result c.args.x c.requires.0 (omega arith) c.warp_both-s.ensures.sum_after c.warp_both-s.ensures.sum2_after
