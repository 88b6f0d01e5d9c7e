-- `df_laid` meets its contract: one part, and then the other. Assumes nothing.
use Rattle.mlsa.proofs.MlsaLaws.{df_of_lem}
use Rattle.mlsa.proofs.df_laid.Goals as goal

pub returns : goal.returns
returns c = df_of_lem _ _ _ _ _ _ _ _ _ _ c.df1-y.ensures c.df2_laid.ensures
