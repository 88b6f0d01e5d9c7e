-- `stretch_in` meets its contract: the gains of all samples, and then the rest. Assumes nothing.
use mathlib.Core.Path.{ap, ◌∙◌}
use native.Mathlib.Omega.{arith}
use Rattle.history.specs.Through.{through}
use Rattle.mlsa.specs.Mlsa.{filter}
use Rattle.filter.specs.Sample.{state}
use Rattle.filter.specs.Zero.{filtered_of}
use Rattle.filter.proofs.FilterLaws.{gains_first}
use Rattle.filter.proofs.zero.stretch_in.Goals as goal

pub returns : goal.returns
returns c =
    let s = state c.args.c.now (filter c.args.d11.now c.args.d12.now c.args.d21.now c.args.d22.now) in
    c.between.ensures
    ∙ ap (through (filtered_of c.args.course.alpha c.args.course.volume c.args.course.increments.now) s) c.gains.ensures
    ∙ gains_first c.args.course.alpha c.args.course.volume c.args.course.increments.now s c.args.samples.now (omega arith)
