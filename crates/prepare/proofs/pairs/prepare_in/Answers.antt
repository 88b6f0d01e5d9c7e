-- `prepare_in` meets its contract: both answers decide. Assumes nothing.
use Rattle.std.proofs.lemmas.Result.{err_from_is_err_and}
use mathlib.Core.Path.{refl, sym}
use Rattle.elementary.proofs.OutcomeLaws.{is_outside}
use Rattle.prepare.specs.Preparing.{start_if, coefficients_of, targets_lsp}
use Rattle.prepare.proofs.PrepareLaws.{lsp_outside_start, lsp_outside_targets, lsp_inside}
use Rattle.prepare.proofs.pairs.prepare_in.Goals as goal

pub returns-in_err-start_in : goal.returns-in_err-start_in
returns-in_err-start_in c =
    let out = is_outside (start_if c.args.first (coefficients_of c.args.kind.alpha c.args.kind.log c.args.kind.s c.args.spectrum.now) c.copy.new.to) _ c.in_err-start_in.ensures.value refl in
    let d = lsp_outside_start c.args.kind.alpha c.args.kind.log c.args.kind.s c.args.spectrum.now c.args.kind.beta c.args.first c.args.start.now (rw c.copy.ensures at out) in
    let p = err_from_is_err_and c.from_residual.result c.from_residual.ensures.1 in
    record { value = rw (p.1, d) refl; start_after = rw d refl; targets_after = rw d refl }

pub returns-in_err-targets_in : goal.returns-in_err-targets_in
returns-in_err-targets_in c =
    let i = sym (rw c.copy.ensures at c.in_ok-start_in.ensures.b_after) in
    let out = is_outside (targets_lsp c.args.kind.alpha c.args.kind.beta c.args.kind.log c.args.kind.s c.args.spectrum.now) _ c.in_err-targets_in.ensures.value refl in
    let d = lsp_outside_targets c.args.kind.alpha c.args.kind.log c.args.kind.s c.args.spectrum.now c.args.kind.beta c.args.first c.args.start.now _ i out in
    let p = err_from_is_err_and c.from_residual-in_err-targets_in.result c.from_residual-in_err-targets_in.ensures.1 in
    record { value = rw (p.1, d) refl; start_after = rw d refl; targets_after = rw d refl }

pub returns : goal.returns
returns c =
    let i = sym (rw c.copy.ensures at c.in_ok-start_in.ensures.b_after) in
    let j = sym c.in_ok-targets_in.ensures.b_after in
    let d = lsp_inside c.args.kind.alpha c.args.kind.log c.args.kind.s c.args.spectrum.now c.args.kind.beta c.args.first c.args.start.now _ _ i j in
    record { value = rw d refl; start_after = rw d c.copy-2.ensures; targets_after = rw d c.copy-3.ensures }
