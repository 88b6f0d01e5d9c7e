-- `spread` meets its contract: the first i entries are made. Assumes nothing.
use mathlib.Core.Path.{◌≡◌, refl, ap, ◌∙◌}
use native.Mathlib.Omega.{arith}
use lib.Ieee.{Float}
use lib.ListN.{length, set, length-set}
use Rattle.number.proofs.Lists.{over_end}
use Rattle.vectors.specs.Vectors.{grown}
use Rattle.postfilter.specs.Pairs.{spread_entry, spread_of}
use Rattle.postfilter.proofs.PostfilterLaws.{spread_turn}
use Rattle.postfilter.proofs.pairs.spread.Goals as goal

pub loop-i-init : goal.loop-i-init
unfolding grown
loop-i-init c = (omega arith, omega arith, omega arith, refl)

pub loop-i-preserved : goal.loop-i-preserved
loop-i-preserved c =
    let turn = spread_turn c.args.beta c.args.lsp.now c.loop-i.buf c.args.buf.now c.loop-i.i (omega arith) c.loop-i.invariant.3 in
    (omega arith, length-set c.loop-i.buf c.loop-i.i _ ∙ c.loop-i.invariant.1, c.loop-i.invariant.2, ap (λ (y : Float). set c.loop-i.buf c.loop-i.i y) c.entry.ensures ∙ turn)

pub returns : goal.returns
unfolding spread_of
returns c =
    let n : c.loop-i.i ≡ length c.args.lsp.now = omega arith in
    c.loop-i.invariant.3 ∙ over_end (grown (λ _. spread_entry c.args.beta c.args.lsp.now) c.loop-i.i) c.args.buf.now c.loop-i.i (omega arith) ∙ rw n refl
