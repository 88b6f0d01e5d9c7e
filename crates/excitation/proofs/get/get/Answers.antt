-- `get` meets its contract. Assumes nothing.
use mathlib.Core.Path.{◌∙◌, sym}
use Rattle.noise.specs.Draw.{tries}
use Rattle.excitation.specs.Excitation.{state}
use Rattle.excitation.proofs.GetLaws.{step_plain, step_mixed}
use Rattle.excitation.proofs.get.get.Goals as goal

pub returns-then-is_empty-clause-line_after : goal.returns-then-is_empty-clause-line_after
returns-then-is_empty-clause-line_after c =
    c.get_plain.ensures.value c.args.line.now ∙ step_plain tries (state c.args.pulse.now c.args.random.now c.args.line.now) c.args.lpf.now (sym c.is_empty.ensures ∙ c.if-is_empty.true)

pub returns-else-is_empty-clause-line_after : goal.returns-else-is_empty-clause-line_after
returns-else-is_empty-clause-line_after c =
    c.get_shifted.ensures.line_after ∙ step_mixed tries (state c.args.pulse.now c.args.random.now c.args.line.now) c.args.lpf.now (sym c.is_empty.ensures ∙ c.if-is_empty.false)
