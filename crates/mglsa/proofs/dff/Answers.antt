-- `dff` meets its contract. Assumes nothing.
use Rattle.mglsa.proofs.MglsaLaws.{dff_of_lem}
use Rattle.mglsa.proofs.dff.Goals as goal

pub returns : goal.returns
returns c = dff_of_lem _ _ _ _ _ _ _ c.warp-y.ensures c.push.ensures
