-- `check_lsp_stability` meets its contract: the passes, and in a pass the gaps, that are left make what all of them make. Assumes nothing.
use lib.IntN.{pos}
use lib.Ieee.{binary64, of_int}
use Rattle.number.specs.F64.{◌⊗◌, ◌⊘◌}
use Rattle.stability.specs.Stability.{PI, ¼f}
use mathlib.Core.Path.{◌≡◌, sym, ap, ◌∙◌}
use Prim.Native.Nat.{◌+◌, ◌-◌}
use native.Mathlib.Omega.{arith}
use lib.ListN.{length, set, length-set}
use Rattle.stability.specs.Stability.{least_gap, gap, gaps, low_end, high_end, pass_of, stable_of}
use Rattle.stability.proofs.StabilityLaws.{at, gap_found, gap_stays, low_found, low_stays, high_found, high_stays, gaps_turn, gaps_done, pass_made, pass_found, pass_last, passes_done}
use Rattle.stability.proofs.check_lsp_stability.Goals as goal
use Rattle.stability.proofs.check_lsp_stability.Goals.{Joined-lsp-last, Joined-lsp-min, then-tmp-min, else-tmp-min, then-lsp-min, else-lsp-min, then-lsp-last, else-lsp-last}

pub loop-j-preserved : goal.loop-j-preserved
loop-j-preserved c =
    let min = ¼f ⊗ PI ⊘ of_int binary64 (pos (length c.args.lsp.now)) in
    let last = length c.args.lsp.now - 1 in
    let made : at c.if-tmp-min.lsp c.if-tmp-min.find ≡ gap min c.loop-j.j (at c.loop-j.lsp c.loop-j.find) = elim c.if-tmp-min.branch [ then-tmp-min w ↦ gap_found min c.loop-j.lsp _ c.loop-j.find _ c.loop-j.j w.if-tmp-min.true w.lsp-is w.find-is | else-tmp-min w ↦ gap_stays min c.loop-j.lsp _ c.loop-j.find _ c.loop-j.j w.if-tmp-min.false w.lsp-is w.find-is ] in
    let n : length c.if-tmp-min.lsp ≡ length c.loop-j.lsp = elim c.if-tmp-min.branch [ then-tmp-min w ↦ ap length w.lsp-is ∙ length-set (set c.loop-j.lsp c.loop-j.j _) (c.loop-j.j + 1) _ ∙ length-set c.loop-j.lsp c.loop-j.j _ | else-tmp-min w ↦ ap length w.lsp-is ] in
    (omega arith, omega arith, omega (arith, n), omega (arith, n), ap (gaps min (c.loop-j.j + 1) (last - (c.loop-j.j + 1))) made ∙ gaps_turn min c.loop-j.j last (at c.loop-j.lsp c.loop-j.find) (omega arith) ∙ c.loop-j.invariant.4)

length_joined3 : (c : Joined-lsp-last) → length c.if-lsp-last.lsp ≡ length c.passes.lsp
length_joined3 c =
    let n : length c.if-lsp-last.lsp ≡ length c.if-lsp-min.lsp = elim c.if-lsp-last.branch [ then-lsp-last w ↦ ap length w.lsp-is ∙ length-set c.if-lsp-min.lsp _ _ | else-lsp-last w ↦ ap length w.lsp-is ] in
    let m : length c.if-lsp-min.lsp ≡ length c.loop-j.lsp = elim c.if-lsp-min.branch [ then-lsp-min w ↦ ap length w.lsp-is ∙ length-set c.loop-j.lsp 1 _ | else-lsp-min w ↦ ap length w.lsp-is ] in
    omega arith

-- a pass is the definition's
pass_of_lem : (c : Joined-lsp-last) →
    let len = length c.args.lsp.now in
    at c.if-lsp-last.lsp c.if-lsp-last.find ≡ pass_of (¼f ⊗ PI ⊘ of_int binary64 (pos len)) (len - 1) c.passes.lsp
pass_of_lem c =
    let len = length c.args.lsp.now in
    let min = ¼f ⊗ PI ⊘ of_int binary64 (pos len) in
    let gone = sym (gaps_done min c.loop-j.j (len - 1) (at c.loop-j.lsp c.loop-j.find) (omega arith)) ∙ c.loop-j.invariant.4 in
    let low : at c.if-lsp-min.lsp c.if-lsp-min.find ≡ low_end min (at c.loop-j.lsp c.loop-j.find) = elim c.if-lsp-min.branch [ then-lsp-min w ↦ low_found min c.loop-j.lsp _ c.loop-j.find _ w.if-lsp-min.true w.lsp-is w.find-is | else-lsp-min w ↦ low_stays min c.loop-j.lsp _ c.loop-j.find _ w.if-lsp-min.false w.lsp-is w.find-is ] in
    let high : at c.if-lsp-last.lsp c.if-lsp-last.find ≡ high_end min (len - 1) (at c.if-lsp-min.lsp c.if-lsp-min.find) = elim c.if-lsp-last.branch [ then-lsp-last w ↦ high_found min c.if-lsp-min.lsp _ c.if-lsp-min.find _ (len - 1) w.if-lsp-last.true w.lsp-is w.find-is | else-lsp-last w ↦ high_stays min c.if-lsp-min.lsp _ c.if-lsp-min.find _ (len - 1) w.if-lsp-last.false w.lsp-is w.find-is ] in
    pass_made min (len - 1) c.passes.lsp (at c.loop-j.lsp c.loop-j.find) (at c.if-lsp-min.lsp c.if-lsp-min.find) (at c.if-lsp-last.lsp c.if-lsp-last.find) gone low high

pub passes-preserved : goal.passes-preserved
passes-preserved c =
    let n = length_joined3 (goal.at.passes-preserved c).Joined-lsp-last in
    let again = pass_found _ _ c.passes.pass c.passes.lsp c.if-lsp-last.lsp c.if-lsp-last.find (omega arith) (pass_of_lem (goal.at.passes-preserved c).Joined-lsp-last) c.if-not-find.false in
    (omega arith, omega arith, omega (arith, n), omega (arith, n), omega (arith, n), again ∙ c.passes.invariant.5)

pub returns-after-passes : goal.returns-after-passes
unfolding stable_of least_gap
returns-after-passes c =
    sym (passes_done _ _ c.passes.pass c.passes.lsp (omega arith)) ∙ c.passes.invariant.5

pub returns-then-not-find : goal.returns-then-not-find
unfolding stable_of least_gap
returns-then-not-find c =
    pass_last _ _ c.passes.pass c.passes.lsp c.if-lsp-last.lsp c.if-lsp-last.find (omega arith) (pass_of_lem (goal.at.returns-then-not-find c).Joined-lsp-last) c.if-not-find.true ∙ c.passes.invariant.5
