-- `filter_in` meets its contract: each answer decides. Assumes nothing.
use mathlib.Core.Path.{refl}
use Rattle.std.proofs.lemmas.Result.{err_from_is_err_and}
use Rattle.elementary.proofs.OutcomeLaws.{answer_outside, answer_inside}
use Rattle.number.specs.F64.{◌‼◌}
use Rattle.lsp.specs.Lsp.{lsp2en_of}
use Rattle.postfilter.specs.Pairs.{levelled}
use Rattle.postfilter.proofs.PostfilterLaws.{lsp_outside_before, lsp_outside_after, lsp_outside_level, lsp_inside}
use Rattle.postfilter.proofs.pairs.filter_in.Goals as goal

pub returns-in_err-en1 : goal.returns-in_err-en1
returns-in_err-en1 c =
    let out = answer_outside (lsp2en_of c.args.log c.args.s c.args.lsp.now) _ c.in_err-en1.ensures refl in
    let d = lsp_outside_before c.args.beta c.args.log c.args.s c.args.lsp.now out in
    let p = err_from_is_err_and c.from_residual.result c.from_residual.ensures.1 in
    record { value = rw (p.1, d) refl; lsp_after = rw d refl }

pub returns-in_err-en2 : goal.returns-in_err-en2
returns-in_err-en2 c =
    let one = answer_inside (lsp2en_of c.args.log c.args.s c.args.lsp.now) _ c.in_ok-en1.en1 c.in_ok-en1.ensures refl in
    let out = answer_outside (lsp2en_of c.args.log c.args.s c.spread.new.buf) _ c.in_err-en2.ensures refl in
    let d = lsp_outside_after c.args.beta c.args.log c.args.s c.args.lsp.now _ c.spread.new.buf one c.spread.ensures out in
    let p = err_from_is_err_and c.from_residual-in_err-en2.result c.from_residual-in_err-en2.ensures.1 in
    record { value = rw (p.1, d) refl; lsp_after = rw d refl }

pub returns : goal.returns
returns c =
    let one = answer_inside (lsp2en_of c.args.log c.args.s c.args.lsp.now) _ c.in_ok-en1.en1 c.in_ok-en1.ensures refl in
    let two = answer_inside (lsp2en_of c.args.log c.args.s c.spread.new.buf) _ c.in_ok-en2.en2 c.in_ok-en2.ensures refl in
    let x = answer_inside (levelled c.args.log c.in_ok-en1.en1 c.in_ok-en2.en2 (c.spread.new.buf ‼ 0)) _ c.in_ok-buf.field-0 c.in_ok-buf.ensures refl in
    let d = lsp_inside c.args.beta c.args.log c.args.s c.args.lsp.now _ c.spread.new.buf one c.spread.ensures _ two _ x in
    record { value = rw d refl; lsp_after = rw d c.copy.ensures }

pub returns-in_err-buf : goal.returns-in_err-buf
returns-in_err-buf c =
    let one = answer_inside (lsp2en_of c.args.log c.args.s c.args.lsp.now) _ c.in_ok-en1.en1 c.in_ok-en1.ensures refl in
    let two = answer_inside (lsp2en_of c.args.log c.args.s c.spread.new.buf) _ c.in_ok-en2.en2 c.in_ok-en2.ensures refl in
    let out = answer_outside (levelled c.args.log c.in_ok-en1.en1 c.in_ok-en2.en2 (c.spread.new.buf ‼ 0)) _ c.in_err-buf.ensures refl in
    let d = lsp_outside_level c.args.beta c.args.log c.args.s c.args.lsp.now _ c.spread.new.buf one c.spread.ensures _ two out in
    let p = err_from_is_err_and c.from_residual-in_err-buf.result c.from_residual-in_err-buf.ensures.1 in
    record { value = rw (p.1, d) refl; lsp_after = rw d refl }
