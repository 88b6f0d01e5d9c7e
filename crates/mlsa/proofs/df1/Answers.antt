-- `df1` meets its contract: the rows that are left make of the part here what all five make of it at the start. Assumes nothing.
use mathlib.Core.Path.{sym, ap, ◌∙◌}
use Prim.Native.Nat.{◌-◌}
use native.Mathlib.Omega.{arith}
use Rattle.mlsa.specs.Mlsa.{downward, ended, df1_of}
use Rattle.mlsa.proofs.MlsaLaws.{down_turn, down_end}
use Rattle.mlsa.proofs.df1.Goals as goal

pub loop-i-preserved : goal.loop-i-preserved
loop-i-preserved c =
    ap (downward _ (c.loop-i.i - 1 - 1)) c.first_row-s.ensures ∙ down_turn _ c.loop-i.i _ (omega arith) ∙ c.loop-i.invariant

pub returns : goal.returns
unfolding df1_of
returns c =
    ap ended (sym (down_end _ c.loop-i.i _ (omega arith)) ∙ c.loop-i.invariant)
