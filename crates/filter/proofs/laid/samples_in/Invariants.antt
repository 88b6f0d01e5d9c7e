-- `samples_in` meets its contract: the samples that are left, from the state here on, come to what all of them come to from the start. Assumes nothing.
use mathlib.Core.Path.{◌≡◌}
use lib.ListN.{length}
use Rattle.history.specs.Through.{through}
use Rattle.history.proofs.ThroughLaws.{from_here}
use Rattle.mlsa.specs.Mlsa.{filter}
use Rattle.mlsa.specs.Laid.{flat}
use Rattle.filter.specs.Sample.{state}
use Rattle.filter.specs.Zero.{filtered_of}
use Rattle.filter.proofs.laid.samples_in.Given as goal

abbrev pub invariant-loop-x : goal.invariant-loop-x
invariant-loop-x l =
    from_here (filtered_of l.course.alpha l.course.volume l.course.increments.now) l.x-index (state l.c (filter l.d11 l.d12 (flat (length l.initial.c) l.first l.second l.d21) l.d22)) l.samples
    ≡ through (filtered_of l.course.alpha l.course.volume l.course.increments.now) (state l.initial.c (filter l.initial.d11 l.initial.d12 (flat (length l.initial.c) l.initial.first l.initial.second l.initial.d21) l.initial.d22)) l.initial.samples
