-- `eight_in` meets its contract: the first two entries, and what `sweep_in` makes of the rest. Assumes nothing.
use mathlib.Core.Path.{◌∙◌}
use native.Mathlib.Omega.{arith}
use Rattle.wave.specs.Wave.{made_by}
use Rattle.wave.proofs.WaveLaws.{wave_stored}
use Rattle.wave.proofs.eight_in.Goals as goal

pub returns : goal.returns
returns c =
    c.sweep_in.ensures ∙ wave_stored c.args.alpha _ _ (made_by c.start-first.result.1) c.args.x.now c.args.g.now (omega arith) c.start-first.ensures.0 c.start-first.ensures.1 c.start-first.ensures.2
