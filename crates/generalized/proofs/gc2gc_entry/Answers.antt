-- `gc2gc_entry` meets its contract: the terms that are left give what all of them give, in both sums. Assumes nothing.
use mathlib.Core.Path.{sym, ◌∙◌}
use native.Mathlib.Omega.{arith}
use Rattle.vectors.proofs.VectorLaws.{sum_turn, sum_done}
use Rattle.generalized.specs.Generalized.{ss1_term, ss2_term}
use Rattle.generalized.proofs.GeneralizedLaws.{entry_later}
use Rattle.generalized.proofs.gc2gc_entry.Goals as goal

pub loop-k-preserved : goal.loop-k-preserved
loop-k-preserved c =
    let one = sum_turn (ss1_term c.args.c.now c.args.d.now c.args.i) c.loop-k.k c.args.i c.loop-k.ss1 (omega arith) in
    let two = sum_turn (ss2_term c.args.c.now c.args.d.now c.args.i) c.loop-k.k c.args.i c.loop-k.ss2 (omega arith) in
    (omega arith, one ∙ c.loop-k.invariant.1, two ∙ c.loop-k.invariant.2)

pub returns : goal.returns
returns c =
    let one = sym (sum_done (ss1_term c.args.c.now c.args.d.now c.args.i) c.loop-k.k c.args.i c.loop-k.ss1 (omega arith)) ∙ c.loop-k.invariant.1 in
    let two = sym (sum_done (ss2_term c.args.c.now c.args.d.now c.args.i) c.loop-k.k c.args.i c.loop-k.ss2 (omega arith)) ∙ c.loop-k.invariant.2 in
    rw (one, two) (entry_later c.args.gamma c.args.c.now c.args.d.now c.args.i (omega arith))
