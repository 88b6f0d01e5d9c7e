-- `terms` meets its contract: of both, the terms that are left give what all of them give. Assumes nothing.
use mathlib.Core.Path.{◌≡◌, sym, ◌∙◌}
use Prim.Native.Nat.{◌+◌, ◌*◌}
use native.Mathlib.Omega.{arith}
use Rattle.vectors.proofs.VectorLaws.{sum_done}
use Rattle.cepstrum.specs.Weights.{weighed_term}
use Rattle.energies.specs.Pairs.{evens, odds}
use Rattle.energies.proofs.PairLaws.{even_turn, odd_turn, even_last, odd_last}
use Rattle.energies.proofs.terms.Goals as goal

pub loop-t-preserved : goal.loop-t-preserved
loop-t-preserved c =
    let k = c.args.from + 2 * c.loop-t.t in
    let on : c.args.from + 2 * (c.loop-t.t + 1) ≡ k + 2 = omega arith in
    (rw on (even_turn c.args.w.now c.args.r.now c.args.n k c.args.to c.loop-t.first _ _ _ _ (omega arith) (omega arith) (omega arith) (omega arith) (omega arith)) ∙ c.loop-t.invariant.0, rw on (odd_turn c.args.w.now c.args.r.now c.args.n k c.args.to c.loop-t.second _ _ _ _ (omega arith) (omega arith) (omega arith) (omega arith) (omega arith)) ∙ c.loop-t.invariant.1)

pub returns-then-to-from-eq1 : goal.returns-then-to-from-eq1
returns-then-to-from-eq1 c =
    let k = c.args.from + 2 * c.loop-t.t in
    (even_last c.args.w.now c.args.r.now c.args.n k c.args.to c.loop-t.first _ _ (omega arith) (omega arith) (omega arith) ∙ c.loop-t.invariant.0, odd_last c.args.w.now c.args.r.now c.args.n k c.args.to c.loop-t.second _ _ (omega arith) (omega arith) (omega arith) ∙ c.loop-t.invariant.1)

pub returns-else-to-from-eq1 : goal.returns-else-to-from-eq1
returns-else-to-from-eq1 c =
    let k = c.args.from + 2 * c.loop-t.t in
    let first = sum_done (weighed_term (evens c.args.w.now) (evens c.args.r.now) c.args.n) k c.args.to c.loop-t.first (omega arith) in
    let second = sum_done (weighed_term (odds c.args.w.now) (odds c.args.r.now) c.args.n) k c.args.to c.loop-t.second (omega arith) in
    (sym first ∙ c.loop-t.invariant.0, sym second ∙ c.loop-t.invariant.1)
