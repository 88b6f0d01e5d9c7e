-- `stretch_in` meets its contract: the samples that are left, from the state here on, come to what all of them come to from the start. Assumes nothing.
use mathlib.Core.Path.{◌≡◌}
use Rattle.history.specs.Through.{through}
use Rattle.history.proofs.ThroughLaws.{from_here}
use Rattle.filter.specs.Sample.{state}
use Rattle.filter.specs.NonZero.{sample_of}
use Rattle.filter.proofs.nonzero.stretch_in.Given as goal

abbrev pub invariant-loop-x : goal.invariant-loop-x
invariant-loop-x l =
    from_here (sample_of l.course.alpha l.stages l.course.volume l.course.increments.now) l.x-index (state l.c l.d) l.samples ≡ through (sample_of l.course.alpha l.stages l.course.volume l.course.increments.now) (state l.initial.c l.initial.d) l.initial.samples
