-- `inside` meets its contract. Assumes nothing.
use Rattle.std.proofs.Common.{◌*◌, ap, ◌∙◌}
use lib.Ieee.{Float}
use Rattle.number.specs.F64.{◌⊗◌}
use Rattle.exponential.specs.Exp.{multiples, rest_of, sum_at}
use Rattle.exponential.proofs.Together.{joined_inside}
use Rattle.exponential.proofs.inside.Goals as goal

pub returns : goal.returns
returns c =
    ap (λ (p : Float). sum_at p ⊗ c.power_of_two.result) (c.rest.ensures ∙ ap (rest_of c.args.negative c.args.u) c.multiple-m.ensures)
    ∙ ap (λ (p : Float). sum_at (rest_of c.args.negative c.args.u (multiples (2 * c.args.k))) ⊗ p) c.power_of_two.ensures
    ∙ joined_inside c.args.negative c.args.u c.args.k c.requires.0
