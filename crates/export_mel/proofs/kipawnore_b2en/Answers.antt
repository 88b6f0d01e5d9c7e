-- `kipawnore_b2en` meets its contract: a test of the limits, and the function that it calls. Assumes nothing.
use Rattle.std.proofs.Common.{[], ◌∷◌, sym, ap, ◌∙◌}
use borrow.Author.Tests.{eq-eqb}
use lib.Ieee.{Float}
use Rattle.limits.proofs.LimitsLaws.{one_entry}
use Rattle.export_mel.proofs.kipawnore_b2en.Goals as goal

pub returns-clause-energy_after : goal.returns-clause-energy_after
returns-clause-energy_after c =
    let e = sym c.entries.ensures ∙ c.if-not-entries.false in
    let f = eq-eqb _ _ c.if-energy-ne1.false in
    rw (e, f) (one_entry c.args.energy.now _ c.if-energy-ne1.false ∙ ap (λ (x : Float). x ∷ []) c.b2en.ensures)
