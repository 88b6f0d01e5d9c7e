-- `b2en` meets its contract: it is the definition's steps. Assumes nothing.
use mathlib.Core.Path.{ap, ◌∙◌}
use Rattle.vectors.specs.Vectors.{energy_of}
use Rattle.cepstrum.specs.Cepstrum.{c2ir_of, energy_on, b2en_of}
use Rattle.cepstrum.proofs.coefficients.b2en.Goals as goal

pub returns : goal.returns
unfolding b2en_of energy_on
returns c = c.energy.ensures ∙ ap energy_of (c.c2ir-ir.ensures ∙ ap (c2ir_of 576) c.b2c-c.ensures)
