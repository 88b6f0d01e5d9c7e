-- `kipawnore_c2ir` meets its contract: a test of the limits, and the function that it calls. Assumes nothing.
use Rattle.std.proofs.Common.{◌≡◌, refl, length}
use borrow.Author.Tests.{eq-eqb, ne_eqb}
use borrow.Author.Rules.{rules}
use Rattle.export_mel.proofs.kipawnore_c2ir.Goals as goal

pub returns-then-ir-ne576 : goal.returns-then-ir-ne576
returns-then-ir-ne576 c =
    let n : length c.args.c.now ≡ 576 = search rules in
    let e = eq-eqb _ _ n in
    let f = ne_eqb _ _ c.if-ir-ne576.true in
    record { value = rw (e, f) refl; ir_after = rw (e, f) refl }
