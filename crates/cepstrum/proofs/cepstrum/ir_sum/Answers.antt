-- `ir_sum` meets its contract: the terms that are left give what all of them give. Assumes nothing.
use mathlib.Core.Path.{sym, ◌∙◌}
use Prim.Native.Nat.{◌+◌, ◌-◌}
use native.Mathlib.Omega.{arith}
use Rattle.vectors.proofs.VectorLaws.{sum_turn, sum_done}
use Rattle.cepstrum.specs.Weights.{weighed_term}
use Rattle.cepstrum.proofs.cepstrum.ir_sum.Goals as goal

pub loop-k-preserved : goal.loop-k-preserved
loop-k-preserved c =
    (omega arith, sum_turn (weighed_term c.args.w.now c.args.ir.now c.args.n) c.loop-k.k (c.args.n + 1) c.loop-k.d (omega arith) ∙ c.loop-k.invariant.1)

pub returns : goal.returns
returns c =
    sym (sum_done (weighed_term c.args.w.now c.args.ir.now c.args.n) c.loop-k.k (c.args.n + 1) c.loop-k.d (omega arith)) ∙ c.loop-k.invariant.1
