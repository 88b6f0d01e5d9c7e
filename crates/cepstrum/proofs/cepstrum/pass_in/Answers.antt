-- `pass_in` meets its contract: the first two entries, and what `onward_in` makes of the rest. Assumes nothing.
use mathlib.Core.Path.{◌∙◌}
use native.Mathlib.Omega.{arith}
use Rattle.cepstrum.proofs.CepstrumLaws.{pass_two}
use Rattle.cepstrum.proofs.cepstrum.pass_in.Goals as goal

pub returns : goal.returns
returns c = c.onward_in.ensures ∙ pass_two _ _ c.args.g.now (omega arith)
