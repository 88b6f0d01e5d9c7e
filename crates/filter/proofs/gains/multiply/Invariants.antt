-- `multiply` meets its contract: the samples that are left, from c0 here on, come to what all of them come to from the start. Assumes nothing.
use mathlib.Core.Path.{◌≡◌}
use lib.ListN.{length}
use lib.Ieee.{Float}
use Rattle.history.specs.Through.{through}
use Rattle.history.proofs.ThroughLaws.{from_here}
use Rattle.filter.specs.Zero.{gain_of, on_by, Prepared}
use Rattle.filter.proofs.gains.multiply.Given as goal

abbrev pub invariant-loop-i : goal.invariant-loop-i
invariant-loop-i l =
    (increment start : Float) → Prepared increment start (length l.initial.samples) l.rests l.powers
    → from_here (gain_of increment) l.i (on_by increment start l.i) l.samples ≡ through (gain_of increment) start l.initial.samples
