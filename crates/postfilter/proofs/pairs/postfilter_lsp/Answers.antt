-- `postfilter_lsp` meets its contract. Assumes nothing.
use mathlib.Core.Path.{refl, sym, ◌∙◌}
use Rattle.postfilter.proofs.PostfilterLaws.{lsp_acts, lsp_rests}
use Rattle.postfilter.proofs.pairs.postfilter_lsp.Goals as goal

pub returns-then-not-acting : goal.returns-then-not-acting
returns-then-not-acting c =
    let d = lsp_rests c.args.beta c.args.log c.args.s c.args.lsp.now (sym c.acting.ensures ∙ c.if-not-acting.true) in
    record { value = rw d refl; lsp_after = rw d refl }

pub returns : goal.returns
returns c =
    let d = lsp_acts c.args.beta c.args.log c.args.s c.args.lsp.now (sym c.acting.ensures ∙ c.if-not-acting.false) in
    record { value = rw d c.filter_in.ensures.value; lsp_after = rw d c.filter_in.ensures.lsp_after }
