-- `prepare_in` meets its contract: the postfilter's answer decides. Assumes nothing.
use Rattle.std.proofs.lemmas.Result.{err_from_is_err_and}
use mathlib.Core.Path.{refl}
use Rattle.elementary.proofs.OutcomeLaws.{is_outside, is_inside}
use Rattle.postfilter.specs.Mel.{postfilter_mcp_of}
use Rattle.prepare.proofs.PrepareLaws.{mcp_outside, mcp_inside}
use Rattle.prepare.proofs.mel.prepare_in.Goals as goal

pub returns-in_err-postfilter_mcp : goal.returns-in_err-postfilter_mcp
returns-in_err-postfilter_mcp c =
    let out = is_outside (postfilter_mcp_of c.args.alpha c.args.beta c.copy.new.to) _ c.in_err-postfilter_mcp.ensures.value refl in
    let d = mcp_outside c.args.alpha c.args.beta c.args.start.now c.args.spectrum.now c.copy.new.to c.copy.ensures c.args.first out in
    let p = err_from_is_err_and c.from_residual.result c.from_residual.ensures.1 in
    record { value = rw (p.1, d) refl; start_after = rw d refl; targets_after = rw d refl }

pub returns : goal.returns
returns c =
    let i = is_inside (postfilter_mcp_of c.args.alpha c.args.beta c.copy.new.to) _ c.copy.new.to _ c.in_ok-postfilter_mcp.ensures.value refl c.in_ok-postfilter_mcp.ensures.c_after in
    let d = mcp_inside c.args.alpha c.args.beta c.args.start.now c.args.spectrum.now c.copy.new.to c.copy.ensures c.args.first _ _ _ i c.start_in.ensures c.mc2b.ensures in
    record { value = rw d refl; start_after = rw d refl; targets_after = rw d refl }
