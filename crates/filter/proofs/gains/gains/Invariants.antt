-- `gains` meets its contract: the samples that are left, from c0 here on, come to what all of them come to from the start. Assumes nothing.
use mathlib.Core.Path.{◌≡◌}
use Prim.Native.Nat.{◌-◌}
use lib.ListN.{length}
use Rattle.history.specs.Through.{through}
use Rattle.history.proofs.ThroughLaws.{from_here}
use Rattle.filter.specs.Zero.{gain_of}
use Rattle.filter.proofs.gains.gains.Given as goal

abbrev pub invariant-loop-i : goal.invariant-loop-i
invariant-loop-i l =
    from_here (gain_of l.increment) l.i l.c0 l.samples ≡ through (gain_of l.increment) l.start l.initial.samples

abbrev pub decreases-loop-i : goal.decreases-loop-i
decreases-loop-i l = length l.samples - l.i
