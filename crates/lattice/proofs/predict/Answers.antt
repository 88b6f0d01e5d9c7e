-- `predict` meets its contract: what is made, with what the turns that are left make, is what all of them make. Assumes nothing.
use mathlib.Core.Path.{sym, ◌∙◌}
use Prim.Native.Nat.{◌-◌}
use native.Mathlib.Omega.{arith}
use lib.ListN.{length, length-set}
use Rattle.lattice.proofs.LatticeLaws.{predict_turn, predict_done}
use Rattle.lattice.proofs.predict.Goals as goal

pub loop-k-preserved : goal.loop-k-preserved
loop-k-preserved c =
    let turn = predict_turn c.args.odd c.args.p.now c.args.q.now c.loop-k.xx c.loop-k.xf c.loop-k.xff c.loop-k.a1 c.loop-k.a2 c.loop-k.b1 c.loop-k.b2 c.loop-k.lpc (length c.args.lpc.now) c.loop-k.k _ _ _ _ _ _ _ _ (omega arith) (omega arith) c.a_in.ensures c.chain-a0.ensures.value c.chain-a0.ensures.a1_after c.chain-a0.ensures.a2_after c.b_in.ensures c.chain-b0.ensures.value c.chain-b0.ensures.a1_after c.chain-b0.ensures.a2_after in
    (simp length-set (omega arith), length-set c.loop-k.lpc c.loop-k.k _ ∙ c.loop-k.invariant.1, c.loop-k.invariant.2, omega arith, omega arith, omega arith, omega arith, turn ∙ c.loop-k.invariant.7)

pub returns : goal.returns
returns c =
    sym (predict_done c.args.odd c.args.p.now c.args.q.now c.loop-k.xx c.loop-k.xf c.loop-k.xff c.loop-k.a1 c.loop-k.a2 c.loop-k.b1 c.loop-k.b2 c.loop-k.lpc (length c.args.lpc.now) c.loop-k.k (omega arith) (omega arith)) ∙ c.loop-k.invariant.7
