-- `get_mixed` meets its contract. Assumes nothing.
use mathlib.Core.Path.{sym, ap, ◌∙◌}
use lib.Ieee.{Float}
use Rattle.std.specs.Prelude.{Option}
use Rattle.noise.specs.Draw.{tries}
use Rattle.noise.specs.Noise.{taken_of}
use Rattle.delay.specs.Line.{shifted}
use Rattle.excitation.specs.Excitation.{state, sampled_of}
use Rattle.excitation.proofs.GetLaws.{mixed_made, mixed_dry}
use Rattle.excitation.proofs.get.get_mixed.Goals as goal

pub returns-in_err-noise-clause-line_after : goal.returns-in_err-noise-clause-line_after
returns-in_err-noise-clause-line_after c =
    let none = ap (λ (r : Option Float). taken_of r c.nrandom.new.self) (sym c.in_err-noise.was) ∙ c.nrandom.ensures.value in
    ap (λ (r : Option Float). sampled_of r (state c.args.pulse.now c.nrandom.new.self (shifted c.args.line.now))) c.from_residual.ensures
    ∙ mixed_dry tries (state c.args.pulse.now c.args.random.now c.args.line.now) c.args.lpf.now none

pub returns-clause-line_after : goal.returns-clause-line_after
returns-clause-line_after c =
    let value = ap (λ (r : Option Float). taken_of r c.nrandom.new.self) (sym c.in_ok-noise.was) ∙ c.nrandom.ensures.value in
    mixed_made tries (state c.args.pulse.now c.args.random.now c.args.line.now) c.args.lpf.now c.mix.new.line c.in_ok-noise.noise c.mix.result c.nrandom.new.self c.mix.new.pulse value c.mix.ensures.value c.mix.ensures.pulse_after c.mix.ensures.line_after
