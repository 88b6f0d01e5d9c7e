-- `kept` meets its contract. Assumes nothing.
use mathlib.Core.Path.{refl}
use Rattle.configuration.specs.Limits.{limits_kept}
use Rattle.configuration.proofs.kept.Goals as goal

pub returns : goal.returns
unfolding limits_kept
returns c = rw (c.numbers_kept.ensures, c.floats_kept.ensures) refl
