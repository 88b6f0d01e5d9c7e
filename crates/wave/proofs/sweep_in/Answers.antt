-- `sweep_in` meets its contract: what is done, with what the definition makes of the rest, is what it makes of all. Assumes nothing.
use mathlib.Core.Path.{◌≡◌, refl, sym, ◌∙◌}
use Prim.Native.Nat.{◌+◌, ◌-◌, ◌*◌}
use native.Mathlib.Omega.{arith}
use lib.ListN.{length, length-set}
use Rattle.wave.specs.Wave.{made_by}
use Rattle.wave.proofs.WaveLaws.{one_stored, two_stored, swept_end}
use Rattle.wave.proofs.sweep_in.Goals as goal

pub bounds-g-j-in-loop-t-3 : goal.bounds-g-j-in-loop-t-3
bounds-g-j-in-loop-t-3 c = simp length-set (omega arith)

pub loop-t-preserved : goal.loop-t-preserved
loop-t-preserved c =
    let j = 2 + 2 * c.loop-t.t in
    let on : 2 + 2 * (c.loop-t.t + 1) ≡ j + 2 = omega arith in
    let turn = two_stored c.args.alpha c.loop-t.w.input c.two_steps-here.result.1.input c.two_steps-here.result.0 c.two_steps-here.result.1.eighth (made_by c.loop-t.w) (made_by c.two_steps-here.result.1) c.loop-t.g j (omega arith) c.two_steps-here.ensures.1 c.two_steps-here.ensures.0 refl c.two_steps-here.ensures.2 in
    (simp length-set (omega arith), rw on turn ∙ c.loop-t.invariant.1)

pub returns-then-g-eq1 : goal.returns-then-g-eq1
returns-then-g-eq1 c =
    let j = 2 + 2 * c.loop-t.t in
    let here : j ≡ length c.loop-t.g - 1 = omega arith in
    let turn = one_stored c.args.alpha c.loop-t.w.input c.step-last.result.input c.step-last.result.eighth (made_by c.loop-t.w) (made_by c.step-last.result) c.loop-t.g (length c.loop-t.g - 1) (omega arith) c.step-last.ensures.0 refl c.step-last.ensures.1 in
    sym (swept_end _ c.step-last.result.input (made_by c.step-last.result) _ (length c.loop-t.g - 1 + 1) (simp length-set (omega arith))) ∙ turn ∙ (rw here at c.loop-t.invariant.1)

pub returns-else-g-eq1 : goal.returns-else-g-eq1
returns-else-g-eq1 c =
    sym (swept_end _ _ _ _ (2 + 2 * c.loop-t.t) (omega arith)) ∙ c.loop-t.invariant.1
