-- `lay` meets its contract: one pair, and then the other. Assumes nothing.
use Rattle.mlsa.proofs.LayoutLaws.{lay_all}
use Rattle.mlsa.proofs.layout.lay.Goals as goal

pub returns : goal.returns
returns c = lay_all _ _ _ _ c.lay_pair.ensures c.lay_pair-2.ensures
