-- `coefficients` meets its contract. Assumes nothing.
use borrow.Author.Tests.{eq-eqb, ne_eqb}
use Rattle.giving.specs.Begin.{prepared_for}
use Rattle.giving.proofs.begin.coefficients.Goals as goal

pub returns-then-stage-eq0 : goal.returns-then-stage-eq0
unfolding prepared_for
returns-then-stage-eq0 c = let e = eq-eqb _ _ c.if-stage-eq0.true in record { value = rw e c.prepare_mcp.ensures.value; start_after = rw e c.prepare_mcp.ensures.start_after; targets_after = rw e c.prepare_mcp.ensures.targets_after }

pub returns : goal.returns
unfolding prepared_for
returns c = let e = ne_eqb _ _ c.if-stage-eq0.false in record { value = rw e c.prepare_lsp.ensures.value; start_after = rw e c.prepare_lsp.ensures.start_after; targets_after = rw e c.prepare_lsp.ensures.targets_after }
