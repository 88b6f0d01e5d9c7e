-- `find_pair` meets its contract: at each turn, the tries that are left find what all of them find. Assumes nothing.
use mathlib.Core.Path.{◌≡◌}
use Rattle.noise.specs.Draw.{tries}
use Rattle.noise.specs.Noise.{found_of}
use Rattle.noise.proofs.pair.find_pair.Given as goal

abbrev pub invariant-loop-left : goal.invariant-loop-left
invariant-loop-left l = found_of l.left l.next ≡ found_of tries l.next-2

abbrev pub decreases-loop-left : goal.decreases-loop-left
decreases-loop-left l = l.left
