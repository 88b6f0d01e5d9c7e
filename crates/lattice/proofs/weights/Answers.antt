-- `weights` meets its contract: the entries that are left decide. Assumes nothing.
use mathlib.Core.Path.{◌≡◌, ◌∙◌}
use Prim.Native.Nat.{◌+◌, ◌-◌, ◌/◌}
use native.Mathlib.Omega.{arith}
use Rattle.std.proofs.lemmas.Result.{err_from_is_err_and}
use lib.ListN.{length, drop, length-set, length-drop}
use Rattle.lattice.specs.Lattice.{every_other}
use Rattle.lattice.proofs.LatticeLaws.{Weighed, length_every_other, weighed_all, last_outside, last_more, turn_outside, turn_more}
use Rattle.lattice.proofs.weights.Goals as goal

pub loop-i-preserved : goal.loop-i-preserved
loop-i-preserved c =
    let more = turn_more c.args.lsp.now c.loop-i.p c.loop-i.i c.loop-i.invariant.3 c.loop-i.q c.loop-i.invariant.4 (omega arith) c.in_ok-y.y c.in_ok-y.z c.in_ok-y.ensures (omega arith) (omega arith) in
    (simp length-set (omega arith), length-set c.loop-i.p c.loop-i.i _ ∙ c.loop-i.invariant.1, length-set c.loop-i.q c.loop-i.i _ ∙ c.loop-i.invariant.2, more.0, more.1)

pub returns-in_err-y : goal.returns-in_err-y
returns-in_err-y c =
    let d = turn_outside c.args.lsp.now c.loop-i.p c.loop-i.i c.loop-i.invariant.3 c.loop-i.q c.loop-i.invariant.4 (omega arith) c.in_err-y.ensures in
    let p = err_from_is_err_and c.from_residual.result c.from_residual.ensures.1 in
    record { lsp_value = rw p.1 d; lsp_value_2 = rw p.1 tt }

pub returns-in_err-x : goal.returns-in_err-x
returns-in_err-x c =
    let half = length c.args.q.now in
    let end : c.loop-i.i ≡ half = omega arith in
    let w : Weighed (every_other c.args.lsp.now) c.loop-i.p half = rw end at c.loop-i.invariant.3 in
    let d = last_outside c.args.lsp.now c.loop-i.p half w (omega arith) c.in_err-x.ensures.value in
    let p = err_from_is_err_and c.from_residual-in_err-x.result c.from_residual-in_err-x.ensures.1 in
    record { lsp_value = rw p.1 d; lsp_value_2 = rw p.1 tt }

pub returns-in_ok-x : goal.returns-in_ok-x
returns-in_ok-x c =
    let half = length c.args.q.now in
    let end : c.loop-i.i ≡ half = omega arith in
    let w : Weighed (every_other c.args.lsp.now) c.loop-i.p half = rw end at c.loop-i.invariant.3 in
    let more = last_more c.args.lsp.now c.loop-i.p half w (omega arith) c.in_ok-x.x c.in_ok-x.ensures.value (omega arith) in
    let n = length_every_other c.args.lsp.now in
    let m : length (every_other (drop 1 c.args.lsp.now)) ≡ (length c.args.lsp.now - 1 + 1) / 2 = simp length-drop at (length_every_other (drop 1 c.args.lsp.now)) in
    record { lsp_value = tt; lsp_value_2 = (weighed_all (every_other c.args.lsp.now) _ (half + 1) (omega arith) (simp length-set (omega arith)) more, weighed_all (every_other (drop 1 c.args.lsp.now)) c.loop-i.q c.loop-i.i (omega arith) (omega arith) c.loop-i.invariant.4) }

pub returns-else-half-p : goal.returns-else-half-p
returns-else-half-p c =
    let n = length_every_other c.args.lsp.now in
    let m : length (every_other (drop 1 c.args.lsp.now)) ≡ (length c.args.lsp.now - 1 + 1) / 2 = simp length-drop at (length_every_other (drop 1 c.args.lsp.now)) in
    record { lsp_value = tt; lsp_value_2 = (weighed_all (every_other c.args.lsp.now) c.loop-i.p c.loop-i.i (omega arith) (omega arith) c.loop-i.invariant.3, weighed_all (every_other (drop 1 c.args.lsp.now)) c.loop-i.q c.loop-i.i (omega arith) (omega arith) c.loop-i.invariant.4) }
