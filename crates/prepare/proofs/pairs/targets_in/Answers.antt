-- `targets_in` meets its contract: the postfilter's answer decides. Assumes nothing.
use Rattle.std.proofs.lemmas.Result.{err_from_is_err_and}
use mathlib.Core.Path.{refl}
use Rattle.elementary.proofs.OutcomeLaws.{is_outside, is_inside}
use Rattle.postfilter.specs.Pairs.{postfilter_lsp_of}
use Rattle.prepare.proofs.PrepareLaws.{targets_outside, targets_of}
use Rattle.prepare.proofs.pairs.targets_in.Goals as goal

pub returns-in_err-postfilter_lsp : goal.returns-in_err-postfilter_lsp
returns-in_err-postfilter_lsp c =
    let out = is_outside (postfilter_lsp_of c.args.kind.beta c.args.kind.log c.args.kind.s c.copy.new.to) _ c.in_err-postfilter_lsp.ensures.value refl in
    let d = targets_outside c.args.kind.alpha c.args.kind.log c.args.kind.s c.args.spectrum.now c.args.kind.beta c.copy.new.to c.copy.ensures out in
    let p = err_from_is_err_and c.from_residual.result c.from_residual.ensures.1 in
    record { value = rw (p.1, d) refl; b_after = rw p.1 tt }

pub returns : goal.returns
returns c =
    let i = is_inside (postfilter_lsp_of c.args.kind.beta c.args.kind.log c.args.kind.s c.copy.new.to) _ c.copy.new.to _ c.in_ok-postfilter_lsp.ensures.value refl c.in_ok-postfilter_lsp.ensures.lsp_after in
    let d = targets_of c.args.kind.alpha c.args.kind.log c.args.kind.s c.args.spectrum.now c.args.kind.beta c.copy.new.to c.copy.ensures _ _ i c.check_lsp_stability.ensures in
    record { value = rw d c.coefficients.ensures.value; b_after = rw d c.coefficients.ensures.b_after }
