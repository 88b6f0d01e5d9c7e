-- `gc2gc` meets its contract: the first i entries are made. Assumes nothing.
use Rattle.generalized.proofs.GeneralizedLaws.{gc2gc_begin, gc2gc_turn}
use mathlib.Core.Path.{◌≡◌, refl, ap, ◌∙◌}
use native.Mathlib.Omega.{arith}
use lib.Ieee.{Float}
use lib.ListN.{length, length-set, set}
use Rattle.number.specs.F64.{◌‼◌}
use Rattle.number.proofs.Lists.{over_end}
use Rattle.vectors.specs.Vectors.{grown}
use Rattle.generalized.specs.Generalized.{gc2gc_entry, gc2gc_of}
use Rattle.generalized.proofs.gc2gc.Goals as goal

pub loop-i-init : goal.loop-i-init
loop-i-init c =
    (c.gamma-gamma.ensures, omega arith, simp length-set (omega arith), simp length-set (omega arith), simp length-set (omega arith), refl, gc2gc_begin _ c.args.c.now c.args.d.now (omega arith))

pub loop-i-preserved : goal.loop-i-preserved
loop-i-preserved c =
    let turn = gc2gc_turn _ c.args.c.now _ c.loop-i.d c.loop-i.i (omega arith) c.loop-i.invariant.6 in
    let l = length-set c.loop-i.d c.loop-i.i c.gc2gc_entry.result in
    (c.loop-i.invariant.0, omega arith, omega (arith, l), omega (arith, l), omega (arith, l), l ∙ c.loop-i.invariant.5, ap (λ (y : Float). set c.loop-i.d c.loop-i.i y) c.gc2gc_entry.ensures ∙ turn)

pub returns : goal.returns
unfolding gc2gc_of
returns c =
    let n : c.loop-i.i ≡ length c.args.d.now = omega (arith, length-set c.args.d.now 0 (c.args.c.now ‼ 0)) in
    let made = c.loop-i.invariant.6 ∙ over_end (grown (gc2gc_entry _ c.args.c.now) c.loop-i.i) _ c.loop-i.i (omega arith) in
    made ∙ rw (c.loop-i.invariant.0, n) refl
