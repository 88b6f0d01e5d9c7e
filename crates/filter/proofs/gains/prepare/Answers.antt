-- `prepare` meets its contract. Assumes nothing.
use mathlib.Core.Path.{refl, sym, ap, ◌∙◌}
use native.Mathlib.Omega.{arith}
use lib.Ieee.{Float}
use Rattle.number.specs.F64.{◌⊕◌}
use Rattle.filter.specs.Zero.{on_by}
use Rattle.filter.proofs.GainLaws.{on_next, prepared_more}
use Rattle.filter.proofs.gains.prepare.Goals as goal

pub loop-i-init : goal.loop-i-init
unfolding on_by
loop-i-init c = (refl, λ i h. absurd (omega arith))

pub loop-i-preserved : goal.loop-i-preserved
loop-i-preserved c =
    let more = prepared_more c.args.increment c.args.start c.loop-i.i c.loop-i.rests c.loop-i.powers c.loop-i.c0 c.split-p.result.rest c.split-p.result.power (omega arith) (omega arith) c.loop-i.invariant.0 c.split-p.ensures c.loop-i.invariant.1 in
    (ap (λ (c0 : Float). c0 ⊕ c.args.increment) c.loop-i.invariant.0 ∙ sym (on_next c.args.increment c.args.start c.loop-i.i), more)
