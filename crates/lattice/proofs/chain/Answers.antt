-- `chain` meets its contract: what the sections that are left make is what all of them make. Assumes nothing.
use mathlib.Core.Path.{sym, ◌∙◌}
use native.Mathlib.Omega.{arith}
use lib.ListN.{take, length-set}
use lib.Seq.{take_all}
use Rattle.number.proofs.Lists.{over_end}
use Rattle.lattice.proofs.LatticeLaws.{inputs_turn, output_turn, inputs_done, output_done, shifted_turn}
use Rattle.lattice.proofs.chain.Goals as goal

pub loop-i-preserved : goal.loop-i-preserved
loop-i-preserved c =
    let ins = inputs_turn c.loop-i.a0 c.args.p.now c.loop-i.a1 c.loop-i.a2 c.loop-i.i (omega arith) (omega arith) (omega arith) in
    let out = output_turn c.loop-i.a0 c.args.p.now c.loop-i.a1 c.loop-i.a2 c.loop-i.i (omega arith) (omega arith) (omega arith) in
    let old = shifted_turn c.loop-i.a0 c.loop-i.a1 c.args.a1.now c.loop-i.a2 c.args.a2.now c.loop-i.i (omega arith) (omega arith) c.loop-i.invariant.6 c.loop-i.invariant.5 in
    (omega arith, length-set c.loop-i.a1 c.loop-i.i _ ∙ c.loop-i.invariant.1, length-set c.loop-i.a2 c.loop-i.i _ ∙ c.loop-i.invariant.2, ins ∙ c.loop-i.invariant.3, out ∙ c.loop-i.invariant.4, old.0, old.1)

pub returns : goal.returns
returns c =
    let out = sym (output_done c.loop-i.a0 c.args.p.now c.loop-i.a1 c.loop-i.a2 c.loop-i.i (omega arith)) ∙ c.loop-i.invariant.4 in
    let ins = sym (inputs_done c.loop-i.a0 c.args.p.now c.loop-i.a1 c.loop-i.a2 c.loop-i.i (omega arith) (omega arith)) ∙ c.loop-i.invariant.3 in
    record { value = out; a1_after = ins; a2_after = c.loop-i.invariant.5 ∙ over_end (take c.loop-i.i c.args.a1.now) c.args.a2.now c.loop-i.i (omega arith) ∙ take_all c.loop-i.i c.args.a1.now (omega arith) }
