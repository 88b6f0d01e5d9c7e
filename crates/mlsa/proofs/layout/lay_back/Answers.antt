-- `lay_back` meets its contract: the four rows, one after the other. Assumes nothing.
use Rattle.mlsa.proofs.LayoutLaws.{back_all}
use Rattle.mlsa.proofs.layout.lay_back.Goals as goal

pub returns : goal.returns
returns c =
    back_all c.args.n c.args.first.now c.args.second.now c.args.d21.now _ _ _ _ c.requires.2 c.row_back.ensures c.row_back-2.ensures c.row_back-3.ensures c.row_back-4.ensures
