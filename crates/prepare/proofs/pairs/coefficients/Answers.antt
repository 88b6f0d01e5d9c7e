-- `coefficients` meets its contract: each answer decides. Assumes nothing.
use Rattle.std.proofs.lemmas.Result.{err_from_is_err_and}
use mathlib.Core.Path.{refl, sym}
use Rattle.elementary.proofs.OutcomeLaws.{is_outside, is_inside}
use Rattle.generalized.specs.Generalized.{gnorm_of}
use Rattle.lsp.specs.Lsp.{lsp2mgc_of}
use Rattle.prepare.proofs.PrepareLaws.{coefficients_outside, coefficients_outside_norm, coefficients_inside}
use Rattle.prepare.proofs.pairs.coefficients.Goals as goal

pub returns-in_err-lsp2mgc : goal.returns-in_err-lsp2mgc
returns-in_err-lsp2mgc c =
    let out = is_outside (lsp2mgc_of c.args.kind.log c.args.kind.s c.args.lsp.now) _ c.in_err-lsp2mgc.ensures.value refl in
    let d = coefficients_outside c.args.kind.alpha c.args.kind.log c.args.kind.s c.args.lsp.now out in
    let p = err_from_is_err_and c.from_residual.result c.from_residual.ensures.1 in
    record { value = rw (p.1, d) refl; b_after = rw p.1 tt }

pub returns-in_err-gnorm : goal.returns-in_err-gnorm
returns-in_err-gnorm c =
    let i = is_inside (lsp2mgc_of c.args.kind.log c.args.kind.s c.args.lsp.now) _ c.args.mgc.now _ c.in_ok-lsp2mgc.ensures.value refl c.in_ok-lsp2mgc.ensures.mgc_after in
    let out = is_outside (gnorm_of c.args.kind.s c.mc2b.new.b) _ c.in_err-gnorm.ensures.value refl in
    let d = coefficients_outside_norm c.args.kind.alpha c.args.kind.log c.args.kind.s c.args.lsp.now _ c.mc2b.new.b i c.mc2b.ensures out in
    let p = err_from_is_err_and c.from_residual-in_err-gnorm.result c.from_residual-in_err-gnorm.ensures.1 in
    record { value = rw (p.1, d) refl; b_after = rw p.1 tt }

pub returns : goal.returns
returns c =
    let i = is_inside (lsp2mgc_of c.args.kind.log c.args.kind.s c.args.lsp.now) _ c.args.mgc.now _ c.in_ok-lsp2mgc.ensures.value refl c.in_ok-lsp2mgc.ensures.mgc_after in
    let j = is_inside (gnorm_of c.args.kind.s c.mc2b.new.b) _ c.mc2b.new.b _ c.in_ok-gnorm.ensures.value refl c.in_ok-gnorm.ensures.c_after in
    let d = coefficients_inside c.args.kind.alpha c.args.kind.log c.args.kind.s c.args.lsp.now _ c.mc2b.new.b i c.mc2b.ensures _ _ _ j c.gamma.ensures c.multiply_from.ensures in
    record { value = rw d refl; b_after = sym d }
