-- `warp_both` meets its contract: the taps that are left make of either row here what all of them make of it at the start. Assumes nothing.
use lib.ListN.{length, take, drop}
use Rattle.mglsa.proofs.PairLaws.{OnRow}
use Rattle.mglsa.proofs.pair.warp_both.Given as goal

abbrev pub invariant-loop-i : goal.invariant-loop-i
invariant-loop-i l =
    OnRow l.alpha l.c l.i (take (length l.c) l.initial.d) (take (length l.c) l.d) l.s.first × OnRow l.alpha l.c l.i (drop (length l.c) l.initial.d) (drop (length l.c) l.d) l.s.second
