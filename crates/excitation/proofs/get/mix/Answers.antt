-- `mix` meets its contract: what its steps answer, put together. Assumes nothing.
use mathlib.Core.Path.{◌≡◌, sym, ap, ◌∙◌}
use mathlib.Core.List.{List}
use lib.Ieee.{Float}
use Rattle.number.specs.F64.{◌‼◌}
use Rattle.pulse.specs.declared.Pulsed.{Pulsed}
use Rattle.excitation.specs.Excitation.{mixed_line}
use Rattle.excitation.proofs.GetLaws.{line_unvoiced, after_voiced, after_unvoiced, mix_voiced}
use Rattle.excitation.proofs.get.mix.Goals as goal
use Rattle.excitation.proofs.get.mix.Goals.{Joined-pulse, then-pulse, else-pulse}

made : (c : Joined-pulse) → c.if-pulse.line ≡ mixed_line c.args.pulse.now c.args.noise c.args.lpf.now c.args.line.now
made c = elim c.if-pulse.branch [
  | then-pulse w ↦
      w.line-is ∙ (mix_voiced c.args.pulse.now c.args.noise c.args.lpf.now c.args.line.now c.add_noise.new.line w.add_pulse.new.line w.next-pulsed.result w.if-pulse.true c.add_noise.ensures w.next-pulsed.ensures w.add_pulse.ensures).1
  | else-pulse w ↦ w.line-is ∙ c.add_noise.ensures ∙ sym (line_unvoiced c.args.pulse.now c.args.noise c.args.lpf.now c.args.line.now w.if-pulse.false)
]

pub returns-clause-value : goal.returns-clause-value
returns-clause-value c = ap (λ (line : List Float). line ‼ 0) (made (goal.at.returns-clause-value c).Joined-pulse)

pub returns-clause-pulse_after : goal.returns-clause-pulse_after
returns-clause-pulse_after c = elim c.if-pulse.branch [
  | then-pulse w ↦ w.pulse-is ∙ ap (λ (p : Pulsed). p.pulse) w.next-pulsed.ensures ∙ sym (after_voiced c.args.pulse.now w.if-pulse.true)
  | else-pulse w ↦ w.pulse-is ∙ sym (after_unvoiced c.args.pulse.now w.if-pulse.false)
]

pub returns-clause-line_after : goal.returns-clause-line_after
returns-clause-line_after c = made (goal.at.returns-clause-line_after c).Joined-pulse
