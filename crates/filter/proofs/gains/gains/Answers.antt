-- `gains` meets its contract: the samples that are left, from c0 here on, come to what all of them come to from the start. Assumes nothing.
use mathlib.Core.Path.{◌≡◌, sym, ap, ◌∙◌}
use Prim.Native.Nat.{◌+◌}
use native.Mathlib.Omega.{arith}
use lib.ListN.{length}
use lib.Ieee.{Float}
use Rattle.history.specs.Through.{Passage}
use Rattle.history.proofs.ThroughLaws.{through_all, through_block, length_block, through_end}
use Rattle.filter.specs.Zero.{gain_of}
use Rattle.filter.proofs.gains.gains.Goals as goal

pub loop-i-init : goal.loop-i-init
loop-i-init c = through_all _ _ _

pub loop-i-preserved : goal.loop-i-preserved
loop-i-preserved c =
    let step : c.loop-i.i + 128 ≡ c.loop-i.i + c.min-n.result = omega arith in
    rw step (through_block (gain_of _) c.loop-i.i _ c.loop-i.c0 _ c.loop-i.samples _ (omega arith) (omega arith) c.block-c0.ensures) ∙ c.loop-i.invariant

pub returns : goal.returns
returns c =
    ap (λ (p : Passage Float Float). p.made) (sym (through_end _ c.loop-i.i _ c.loop-i.samples (omega arith)) ∙ c.loop-i.invariant)

pub returns-2 : goal.returns-2
returns-2 c =
    let still = length_block (gain_of _) c.loop-i.i _ c.loop-i.c0 _ c.loop-i.samples _ (omega arith) (omega arith) c.block-c0.ensures in
    let all : c.loop-i.i + c.min-n.result ≡ length c.loop-i.samples = omega arith in
    ap (λ (p : Passage Float Float). p.made)
    (sym (through_end _ (c.loop-i.i + c.min-n.result) _ _ (omega (arith, still)))
    ∙ through_block (gain_of _) c.loop-i.i _ c.loop-i.c0 _ c.loop-i.samples _ (omega arith) (omega arith) c.block-c0.ensures ∙ c.loop-i.invariant)
