-- `sample` meets its contract: filter, coefficients and volume, each as its call says. Assumes nothing.
use mathlib.Core.Path.{refl}
use Rattle.filter.proofs.FilterLaws.{sample_of_lem}
use Rattle.filter.proofs.laid.sample.Goals as goal

pub returns : goal.returns
returns c n long = sample_of_lem (λ c x. x) _ _ _ _ _ _ _ _ _ _ refl (rw long at c.df_laid-y.ensures) c.add.ensures
