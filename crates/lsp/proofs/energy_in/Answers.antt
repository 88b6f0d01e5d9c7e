-- `energy_in` meets its contract. Assumes nothing.
use Rattle.std.proofs.Common.{refl, ap, Ok}
use Rattle.std.proofs.lemmas.Result.{err_from_is_err_and}
use Rattle.elementary.proofs.OutcomeLaws.{is_outside, is_inside}
use Rattle.lsp.specs.Lsp.{lsp2mgc_of}
use Rattle.lsp.proofs.LspLaws.{en_outside, en_inside}
use Rattle.lsp.proofs.energy_in.Goals as goal

pub returns-in_err-lsp2mgc : goal.returns-in_err-lsp2mgc
returns-in_err-lsp2mgc c =
    let out = is_outside (lsp2mgc_of c.args.log c.args.s c.args.lsp.now) _ c.in_err-lsp2mgc.ensures.value refl in
    let p = err_from_is_err_and c.from_residual.result c.from_residual.ensures.1 in
    rw (p.1, en_outside c.args.log c.args.s c.args.lsp.now out) refl

pub returns : goal.returns
returns c =
    let i = is_inside (lsp2mgc_of c.args.log c.args.s c.args.lsp.now) _ c.args.mgc.now _ c.in_ok-lsp2mgc.ensures.value refl c.in_ok-lsp2mgc.ensures.mgc_after in
    rw (en_inside c.args.log c.args.s c.args.lsp.now _ i) (ap Ok c.energy.ensures)
