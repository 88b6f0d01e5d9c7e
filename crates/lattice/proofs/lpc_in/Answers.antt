-- `lpc_in` meets its contract: the answer decides, and the chains are at rest. Assumes nothing.
use mathlib.Core.Path.{◌≡◌, refl}
use lib.ListN.{length}
use Rattle.lattice.proofs.LatticeLaws.{lpc_made, lpc_inside}
use Rattle.lattice.proofs.lpc_in.Goals as goal

pub returns : goal.returns
returns c =
    let kp : length c.weights.new.p ≡ length c.args.p.now = c.weights.auto.p in
    let kq : length c.weights.new.q ≡ length c.args.q.now = c.weights.auto.q in
    let made = c.in_ok-weights.ensures.lsp_value_2 in
    let d = lpc_inside c.args.lsp.now _ _ made.0 made.1 in
    let e = lpc_made (length c.args.lsp.now) (length c.args.lpc.now) _ _ c.args.a1.now c.args.a2.now c.args.b1.now c.args.b2.now _ c.requires.lsp_len_bound.1 (rw kp c.requires.a1_value.0) (rw kp c.requires.a1_value.1) (rw kq c.requires.b1_value.0) (rw kq c.requires.b1_value.1) c.predict.ensures in
    record { value = rw d refl; lpc_after = rw d e }
