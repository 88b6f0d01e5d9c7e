-- `stretch` meets its contract: the half before the middle, and then the other. Assumes nothing.
use native.Mathlib.Omega.{arith}
use Rattle.history.proofs.ThroughLaws.{through_parts}
use Rattle.filter.specs.Zero.{sample_of}
use Rattle.filter.proofs.zero.stretch.Goals as goal

pub returns : goal.returns
returns c =
    through_parts (sample_of c.args.course.alpha c.args.course.volume c.args.course.increments.now) _ _ _ _ c.args.samples.now _ _ (omega arith) c.part-middle.ensures c.part.ensures
