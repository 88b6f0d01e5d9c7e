-- `df2_laid` meets its contract: all five rows, and what their answers come to. Assumes nothing.
use mathlib.Core.Path.{refl}
use Rattle.mlsa.proofs.LaidLaws.{df2_laid, heads_at}
use Rattle.mlsa.proofs.df2_laid.Goals as goal

pub returns : goal.returns
returns c =
    let heads = heads_at c.args.d22.now _ _ _ c.at.ensures c.at-2.ensures refl in
    df2_laid c.args.alpha c.args.c.now c.args.first.now _ c.args.second.now _ _ _ c.args.d22.now _ _ heads c.fir-y.ensures c.args.d21.now _ _ c.args.x _ c.requires.d22_len.2 refl refl c.answer.ensures
