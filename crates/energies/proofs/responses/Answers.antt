-- `responses` meets its contract: of both responses the first n entries are made, and r is the two, none later than `high`. Assumes nothing.
use mathlib.Core.Path.{◌≡◌, refl, ap, ◌∙◌}
use mathlib.Core.List.{List}
use Prim.Native.Nat.{◌+◌, ◌*◌, ◌<◌}
use native.Mathlib.Omega.{arith}
use lib.Ieee.{Float}
use lib.ListN.{set, replicate, length-set}
use Rattle.number.specs.F64.{0f}
use Rattle.vectors.specs.Vectors.{sum_from, grown, energy_of}
use Rattle.cepstrum.specs.Weights.{weighed_term}
use Rattle.cepstrum.proofs.CepstrumLaws.{made_more, made_all}
use Rattle.energies.specs.Pairs.{evens, odds}
use Rattle.energies.proofs.PairLaws.{paired_set, paired_zeros}
use Rattle.energies.proofs.TopLaws.{highest_more}
use Rattle.energies.proofs.responses.Goals as goal

pub loop-n-init : goal.loop-n-init
unfolding grown
loop-n-init c =
    let zeros = replicate 576 0f in
    let first = ap (λ (y : Float). set zeros 0 y) c.exp-gain1.ensures.value in
    let second = ap (λ (y : Float). set zeros 0 y) c.exp-gain2.ensures.value in
    let high = highest_more 0 c.later.result c.later-high.result 0 (replicate 1152 0f) _ _ (omega arith) c.later.ensures.0 c.later.ensures.1 c.later-high.ensures.0 c.later-high.ensures.1 (λ j h. absurd (omega arith)) in
    (omega arith, omega arith, refl, (refl, first), (refl, second), paired_set (replicate 1152 0f) zeros zeros 0 _ _ paired_zeros, high)

pub loop-n-preserved : goal.loop-n-preserved
loop-n-preserved c =
    let more : c.loop-n.n < 576 = c.loop-n-test.true in
    let sum1 = c.sums-d.ensures.0 ∙ ap (λ (l : List Float). sum_from (weighed_term (evens c.interleaved-w.result) l c.loop-n.n) 1 c.loop-n.n 0f) c.loop-n.invariant.5.0 in
    let sum2 = c.sums-d.ensures.1 ∙ ap (λ (l : List Float). sum_from (weighed_term (odds c.interleaved-w.result) l c.loop-n.n) 1 c.loop-n.n 0f) c.loop-n.invariant.5.1 in
    let first = made_more c.args.c1.now (evens c.interleaved-w.result) c.loop-n.r1 c.loop-n.n c.sums-d.result.0 (c.interleaved-w.ensures.0 ∙ c.weights-w1.ensures) sum1 c.loop-n.invariant.3 (omega arith) (omega arith) in
    let second = made_more c.args.c2.now (odds c.interleaved-w.result) c.loop-n.r2 c.loop-n.n c.sums-d.result.1 (c.interleaved-w.ensures.1 ∙ c.weights-w2.ensures) sum2 c.loop-n.invariant.4 (omega arith) (omega arith) in
    let high = highest_more c.loop-n.high c.later-in-loop-n.result c.later-high-in-loop-n.result c.loop-n.n c.loop-n.r _ _ (omega (arith, c.loop-n.invariant.2)) c.later-in-loop-n.ensures.0 c.later-in-loop-n.ensures.1 c.later-high-in-loop-n.ensures.0 c.later-high-in-loop-n.ensures.1 c.loop-n.invariant.6 in
    (omega arith, omega arith, length-set (set c.loop-n.r (2 * c.loop-n.n) _) (2 * c.loop-n.n + 1) _ ∙ length-set c.loop-n.r (2 * c.loop-n.n) _ ∙ c.loop-n.invariant.2, first, second, paired_set c.loop-n.r c.loop-n.r1 c.loop-n.r2 c.loop-n.n _ _ c.loop-n.invariant.5, high)

pub returns : goal.returns
returns c =
    let all : c.loop-n.n ≡ 576 = omega arith in
    let first = made_all c.args.c1.now c.loop-n.r1 c.loop-n.n all c.loop-n.invariant.3 in
    let second = made_all c.args.c2.now c.loop-n.r2 c.loop-n.n all c.loop-n.invariant.4 in
    (c.energy.ensures ∙ ap energy_of first, c.energy-2.ensures ∙ ap energy_of second)
