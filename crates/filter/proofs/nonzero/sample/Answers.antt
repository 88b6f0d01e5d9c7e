-- `sample` meets its contract: gain, filter, coefficients and volume, each as its call says. Assumes nothing.
use mathlib.Core.Path.{refl}
use Rattle.filter.specs.NonZero.{gained}
use Rattle.filter.proofs.FilterLaws.{sample_of_lem}
use Rattle.filter.proofs.nonzero.sample.Goals as goal

pub returns : goal.returns
returns c = sample_of_lem gained _ _ _ _ _ _ _ _ _ _ refl c.df-y.ensures c.add.ensures
