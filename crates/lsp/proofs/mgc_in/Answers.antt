-- `mgc_in` meets its contract: each answer decides. Assumes nothing.
use mathlib.Core.Path.{◌≡◌, refl}
use Rattle.std.proofs.lemmas.Result.{err_from_is_err_and}
use lib.ListN.{length, set}
use Rattle.elementary.proofs.OutcomeLaws.{is_outside, is_inside}
use Rattle.generalized.specs.Generalized.{ignorm_of}
use Rattle.lattice.specs.Lattice.{lsp2lpc_of}
use Rattle.lsp.proofs.LspLaws.{mgc_outside_lpc, mgc_outside_gain, mgc_of}
use Rattle.lsp.proofs.mgc_in.Goals as goal

pub returns-in_err-lsp2lpc : goal.returns-in_err-lsp2lpc
returns-in_err-lsp2lpc c =
    let out = is_outside (lsp2lpc_of c.args.lsp.now) _ c.in_err-lsp2lpc.ensures.value refl in
    let d = mgc_outside_lpc c.args.log c.args.s c.args.lsp.now out in
    let p = err_from_is_err_and c.from_residual.result c.from_residual.ensures.1 in
    record { value = rw (p.1, d) refl; mgc_after = rw d refl }

pub returns-in_err-ignorm : goal.returns-in_err-ignorm
returns-in_err-ignorm c =
    let made = is_inside (lsp2lpc_of c.args.lsp.now) _ c.args.lpc.now _ c.in_ok-lsp2lpc.ensures.value refl c.in_ok-lsp2lpc.ensures.lpc_after in
    let out = is_outside (ignorm_of c.args.s (set c.lsp2lpc.new.lpc 0 c.gain.result)) _ c.in_err-ignorm.ensures.value refl in
    let d = mgc_outside_gain c.args.log c.args.s c.args.lsp.now _ _ made c.gain.ensures out in
    let p = err_from_is_err_and c.from_residual-in_err-ignorm.result c.from_residual-in_err-ignorm.ensures.1 in
    record { value = rw (p.1, d) refl; mgc_after = rw d refl }

pub returns : goal.returns
returns c =
    let made = is_inside (lsp2lpc_of c.args.lsp.now) _ c.args.lpc.now _ c.in_ok-lsp2lpc.ensures.value refl c.in_ok-lsp2lpc.ensures.lpc_after in
    let back = is_inside (ignorm_of c.args.s (set c.lsp2lpc.new.lpc 0 c.gain.result)) _ (set c.lsp2lpc.new.lpc 0 c.gain.result) _ c.in_ok-ignorm.ensures.value refl c.in_ok-ignorm.ensures.c_after in
    let d = mgc_of c.args.log c.args.s c.args.lsp.now _ _ made c.gain.ensures _ _ back c.multiply_from.ensures in
    let n : length c.args.mgc.now ≡ length c.args.lsp.now = c.requires.3 in
    record { value = rw (d, ← n) c.mgc2mgc.ensures.value; mgc_after = rw (d, ← n) c.mgc2mgc.ensures.d_after }
