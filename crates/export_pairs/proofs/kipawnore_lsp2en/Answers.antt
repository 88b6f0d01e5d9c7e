-- `kipawnore_lsp2en` meets its contract: a test of the limits, and the function that it calls. Assumes nothing.
use Rattle.std.proofs.Common.{refl, sym, ◌∙◌}
use borrow.Author.Tests.{eq-eqb}
use Rattle.elementary.proofs.OutcomeLaws.{answer_inside}
use Rattle.lsp.specs.Lsp.{lsp2en_of}
use Rattle.limits.proofs.LimitsLaws.{one_entry}
use Rattle.export_pairs.proofs.kipawnore_lsp2en.Goals as goal

pub returns-clause-energy_after : goal.returns-clause-energy_after
returns-clause-energy_after c =
    let e = sym c.entries.ensures ∙ c.if-not-entries.false in
    let f = sym c.stage.ensures ∙ c.if-not-stage.false in
    let g = eq-eqb _ _ c.if-energy-ne1.false in
    let i = answer_inside (lsp2en_of c.args.log c.args.s c.args.lsp.now) _ c.in-Ok.x c.in-Ok.ensures refl in
    rw (e, f, g, i) (one_entry c.args.energy.now _ c.if-energy-ne1.false)
