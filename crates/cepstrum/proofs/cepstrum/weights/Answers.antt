-- `weights` meets its contract: the first k weights are made. Assumes nothing.
use mathlib.Core.Path.{refl, ◌∙◌}
use native.Mathlib.Omega.{arith}
use lib.ListN.{length-set, replicate}
use Rattle.number.specs.F64.{0f}
use Rattle.vectors.specs.Vectors.{grown}
use Rattle.cepstrum.specs.Weights.{weights_of}
use Rattle.cepstrum.proofs.CepstrumLaws.{weights_turn}
use Rattle.cepstrum.proofs.cepstrum.weights.Goals as goal

pub loop-k-init : goal.loop-k-init
unfolding weights_of grown
loop-k-init c = (omega arith, refl, refl)

pub loop-k-preserved : goal.loop-k-preserved
loop-k-preserved c =
    (omega arith, length-set c.loop-k.w c.loop-k.k _ ∙ c.loop-k.invariant.1, weights_turn c.args.c.now c.loop-k.w (replicate 576 0f) c.loop-k.k (omega arith) c.loop-k.invariant.2)
