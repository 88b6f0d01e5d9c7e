-- `df` meets its contract: the stages that are left make of the taps here what all of them make of them at the start. Assumes nothing.
use mathlib.Core.Path.{◌≡◌, sym, ap, ◌∙◌}
use Prim.Native.Nat.{◌+◌, ◌-◌, ◌*◌}
use native.Mathlib.Omega.{arith}
use Rattle.mglsa.specs.Mglsa.{stages_from, turned, df_of}
use Rattle.mglsa.proofs.MglsaLaws.{stage_turn, stages_turn, stage_end, rows_within}
use Rattle.mglsa.proofs.df.Goals as goal

pub two_stages-out-requires : goal.two_stages-out-requires
two_stages-out-requires c = (omega arith, rows_within (2 * c.loop-two.two) _ c.args.stages _ (omega arith) (omega arith))

pub loop-two-preserved : goal.loop-two-preserved
loop-two-preserved c =
    ap (stages_from _ _ (c.args.stages - 2 * (c.loop-two.two + 1)) (2 * (c.loop-two.two + 1))) c.two_stages-out.ensures ∙ stages_turn _ _ c.args.stages c.loop-two.two _ (omega arith) ∙ c.loop-two.invariant

pub returns-then-stages-eq1 : goal.returns-then-stages-eq1
unfolding df_of
returns-then-stages-eq1 c =
    let n = c.args.stages in
    let i = 2 * c.loop-two.two in
    let here : i ≡ n - 1 = omega arith in
    ap turned ((rw (← here) at c.stage.ensures) ∙ sym (stage_end _ _ n (i + 1) _ (omega arith)) ∙ stage_turn _ _ n i _ (omega arith) ∙ c.loop-two.invariant)

pub returns : goal.returns
unfolding df_of
returns c =
    ap turned (sym (stage_end _ _ c.args.stages (2 * c.loop-two.two) _ (omega arith)) ∙ c.loop-two.invariant)
