-- `c2ir` meets its contract: the first n entries are made. Assumes nothing.
use mathlib.Core.Path.{refl, ap}
use native.Mathlib.Omega.{arith}
use lib.ListN.{set, replicate}
use lib.Ieee.{Float}
use Rattle.number.specs.F64.{0f}
use Rattle.vectors.specs.Vectors.{grown}
use Rattle.cepstrum.proofs.CepstrumLaws.{made_more, made_all}
use Rattle.cepstrum.proofs.cepstrum.c2ir.Goals as goal

pub loop-n-init : goal.loop-n-init
unfolding grown
loop-n-init c = (omega arith, omega arith, (refl, ap (λ (y : Float). set (replicate 576 0f) 0 y) c.exp.ensures.value))

pub loop-n-preserved : goal.loop-n-preserved
loop-n-preserved c =
    (omega arith, omega arith, made_more c.args.c.now c.weights-w.result c.loop-n.ir c.loop-n.n c.ir_sum.result c.weights-w.ensures c.ir_sum.ensures c.loop-n.invariant.2 (omega arith) (omega arith))

pub returns : goal.returns
returns c =
    made_all c.args.c.now c.loop-n.ir c.loop-n.n (omega arith) c.loop-n.invariant.2
