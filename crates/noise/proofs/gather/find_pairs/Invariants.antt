-- `find_pairs` meets its contract: after i turns the first i pairs are gathered. Assumes nothing.
use mathlib.Core.Path.{◌≡◌}
use lib.ListN.{length}
use Rattle.noise.specs.Draw.{tries}
use Rattle.noise.specs.Gathering.{Gathered}
use Rattle.noise.proofs.gather.find_pairs.Given as goal

abbrev pub invariant-loop-i : goal.invariant-loop-i
invariant-loop-i l = (length l.firsts ≡ 32) × (length l.seconds ≡ 32) × (length l.sums ≡ 32) × Gathered tries l.next l.i l.last l.firsts l.seconds l.sums
