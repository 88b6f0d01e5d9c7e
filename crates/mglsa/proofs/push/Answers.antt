-- `push` meets its contract: what is done, and then the rest pushed on, is the whole. Assumes nothing.
use mathlib.Core.Path.{refl, sym, ◌∙◌}
use native.Mathlib.Omega.{arith}
use lib.Ieee.{nan}
use Rattle.number.specs.F64.{◌‼◌}
use Rattle.number.proofs.Lists.{left_none, front_turn, front_end}
use Rattle.mglsa.specs.Mglsa.{pushed}
use Rattle.mglsa.proofs.push.Goals as goal

pub loop-tap-preserved : goal.loop-tap-preserved
unfolding pushed
loop-tap-preserved c =
    front_turn (pushed c.loop-tap.before) (pushed (c.loop-tap.d ‼ c.loop-tap.tap-index)) c.loop-tap.d c.loop-tap.tap-index c.loop-tap.before nan (omega arith) refl ∙ c.loop-tap.invariant

pub returns : goal.returns
unfolding pushed
returns c =
    sym (front_end c.loop-tap.d _ c.loop-tap.tap-index (omega arith) (rw (left_none c.loop-tap.d c.loop-tap.tap-index (omega arith)) refl)) ∙ c.loop-tap.invariant
