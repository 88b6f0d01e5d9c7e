-- `stretch_in` meets its contract: the samples that are left, from the state here on, come to what all of them come to from the start. Assumes nothing.
use mathlib.Core.Path.{sym, ◌∙◌}
use native.Mathlib.Omega.{arith}
use lib.Ieee.{nan}
use Rattle.history.proofs.ThroughLaws.{through_all, through_turn, through_end}
use Rattle.filter.proofs.nonzero.stretch_in.Goals as goal

pub loop-x-init : goal.loop-x-init
loop-x-init c = through_all _ _ _

pub loop-x-preserved : goal.loop-x-preserved
loop-x-preserved c =
    through_turn _ c.loop-x.x-index _ c.loop-x.samples nan _ (omega arith) c.sample-y.ensures ∙ c.loop-x.invariant

pub returns : goal.returns
returns c =
    sym (through_end _ c.loop-x.x-index _ c.loop-x.samples (omega arith)) ∙ c.loop-x.invariant
