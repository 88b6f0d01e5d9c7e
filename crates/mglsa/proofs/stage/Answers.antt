-- `stage` meets its contract: a row lies within the taps. Assumes nothing.
use Rattle.mglsa.proofs.MglsaLaws.{stage_of_lem}
use Rattle.mglsa.proofs.stage.Goals as goal

pub returns : goal.returns
returns c = stage_of_lem _ _ _ _ _ _ _ c.dff.ensures
