-- `exp` meets its contract: its parts, joined. Assumes nothing.
use Rattle.std.proofs.Common.{T, sym, ◌∙◌, subst}
use Rattle.exponential.proofs.Branches.{answered}
use Rattle.exponential.proofs.exp.Goals as goal

pub returns : goal.returns
returns c =
    let r = answered c.args.x c.joined.result (subst T (sym c.well_formed.0.1) tt) (c.joined.ensures ∙ c.split-p.ensures) in
    record { value = r.0; exp_answer = r.1 }
