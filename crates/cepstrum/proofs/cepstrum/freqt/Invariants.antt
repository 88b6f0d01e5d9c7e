-- `freqt` meets its contract: the passes that are left, on the array as it is, give what all of them give. Assumes nothing.
use Rattle.std.proofs.Common.{◌≡◌, ◌*◌, ◌/◌, length, drop}
use Rattle.cepstrum.specs.Cepstrum.{passes}
use Rattle.cepstrum.proofs.cepstrum.freqt.Given as goal

abbrev pub invariant-loop-k : goal.invariant-loop-k
invariant-loop-k l = passes l.alpha (drop (8 * l.k) l.c) l.g ≡ passes l.alpha l.c l.initial.g

abbrev pub invariant-loop-i : goal.invariant-loop-i
invariant-loop-i l = passes l.alpha (drop l.i l.c) l.g ≡ passes l.alpha (drop (length l.c / 8 * 8) l.c) l.initial.g
