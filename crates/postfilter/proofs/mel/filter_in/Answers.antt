-- `filter_in` meets its contract: the answer of ln decides. Assumes nothing.
use mathlib.Core.Path.{refl, ap, ◌∙◌}
use Rattle.std.proofs.lemmas.Result.{err_from_is_err_and}
use Rattle.postfilter.specs.Mel.{sharpened_of}
use Rattle.postfilter.proofs.PostfilterLaws.{mcp_outside, mcp_inside}
use Rattle.postfilter.proofs.mel.filter_in.Goals as goal

pub returns : goal.returns
returns c =
    let sharp = c.sharpen.ensures ∙ ap (sharpened_of c.args.alpha c.args.beta) c.copy.ensures in
    let d = mcp_inside c.args.alpha c.args.beta c.args.c.now _ _ _ _ c.mc2b.ensures sharp c.b2en_both-e1.ensures.0 c.b2en_both-e1.ensures.1 c.in_ok-y.y c.in_ok-y.ensures.value in
    record { value = rw d refl; c_after = rw d c.b2mc.ensures }

pub returns-in_err-y : goal.returns-in_err-y
returns-in_err-y c =
    let sharp = c.sharpen.ensures ∙ ap (sharpened_of c.args.alpha c.args.beta) c.copy.ensures in
    let d = mcp_outside c.args.alpha c.args.beta c.args.c.now _ _ _ _ c.mc2b.ensures sharp c.b2en_both-e1.ensures.0 c.b2en_both-e1.ensures.1 c.in_err-y.ensures.value in
    let p = err_from_is_err_and c.from_residual.result c.from_residual.ensures.1 in
    record { value = rw (p.1, d) refl; c_after = rw d refl }
