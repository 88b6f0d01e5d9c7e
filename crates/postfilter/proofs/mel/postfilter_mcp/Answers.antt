-- `postfilter_mcp` meets its contract. Assumes nothing.
use mathlib.Core.Path.{refl, sym, ◌∙◌}
use Rattle.postfilter.proofs.PostfilterLaws.{mcp_acts, mcp_rests}
use Rattle.postfilter.proofs.mel.postfilter_mcp.Goals as goal

pub returns-then-not-acting : goal.returns-then-not-acting
returns-then-not-acting c =
    let d = mcp_rests c.args.alpha c.args.beta c.args.c.now (sym c.acting.ensures ∙ c.if-not-acting.true) in
    record { value = rw d refl; c_after = rw d refl }

pub returns : goal.returns
returns c =
    let d = mcp_acts c.args.alpha c.args.beta c.args.c.now (sym c.acting.ensures ∙ c.if-not-acting.false) in
    record { value = rw d c.filter_in.ensures.value; c_after = rw d c.filter_in.ensures.c_after }
