-- `b2en_both` meets its contract: it is the definition's steps, of both. Assumes nothing.
use mathlib.Core.List.{List}
use mathlib.Core.Path.{ap, ◌∙◌}
use lib.Ieee.{Float}
use Rattle.vectors.specs.Vectors.{energy_of}
use Rattle.cepstrum.specs.Cepstrum.{c2ir_of, energy_on, b2en_of}
use Rattle.energies.proofs.b2en_both.Goals as goal

pub returns : goal.returns
unfolding b2en_of energy_on
returns c =
    let energy : List Float → Float = λ (l : List Float). energy_of (c2ir_of 576 l) in
    (c.responses.ensures.0 ∙ ap energy c.b2c-c1.ensures, c.responses.ensures.1 ∙ ap energy c.b2c-c2.ensures)
