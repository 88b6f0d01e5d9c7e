-- `one_by_one` meets its contract: after i turns the state is that after i samples, and they stand in `out`. Assumes nothing.
use mathlib.Core.Path.{refl, sym, ap, ◌∙◌}
use native.Mathlib.Omega.{arith}
use lib.Ieee.{Float}
use lib.ListN.{length, length-set}
use Rattle.std.specs.Prelude.{Option}
use Rattle.history.proofs.StepLaws.{reached_none, reached_more, reached_dry}
use Rattle.noise.specs.Draw.{tries}
use Rattle.excitation.specs.Excitation.{state, step_of, sampled_of}
use Rattle.excitation.proofs.one_by_one.Goals as goal

pub loop-i-init : goal.loop-i-init
loop-i-init c = (refl, reached_none (step_of tries c.args.lpf.now) _ _)

pub loop-i-preserved : goal.loop-i-preserved
loop-i-preserved c =
    let e = sym c.get.ensures.line_after ∙ ap (λ (r : Option Float). sampled_of r (state c.get.new.pulse c.get.new.random c.get.new.line)) c.in-Some.is in
    (length-set c.loop-i.out c.loop-i.i _ ∙ c.loop-i.invariant.0, reached_more (step_of tries c.args.lpf.now) c.loop-i.i _ _ _ c.loop-i.out _ _ c.loop-i.invariant.1 e (omega arith))

pub returns-in_default : goal.returns-in_default
returns-in_default c =
    let e = sym c.get.ensures.line_after ∙ ap (λ (r : Option Float). sampled_of r (state c.get.new.pulse c.get.new.random c.get.new.line)) c.in_default.is in
    let f = reached_dry (step_of tries c.args.lpf.now) c.loop-i.i (length c.args.out.now) _ _ c.loop-i.out c.args.out.now c.loop-i.invariant.1 (omega arith) e in
    record { state = c.get.ensures.unchanged c.in_default.is ∙ f.0; count = f.1; stand = f.2 }
