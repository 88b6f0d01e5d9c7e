-- `checked` meets its contract, by the exact test or by the plain method. Assumes nothing.
use Rattle.std.proofs.Common.{ℕ, ◌≡◌, ◌+◌, ◌*◌, ◌^◌, subst, arith}
use Rattle.std.specs.Prelude.{Option, Some}
use Rattle.root.specs.Parts.{RestOf}
use Rattle.root.proofs.checked.checked.Goals as goal

pub returns : goal.returns
returns c =
    let w : RestOf c.args.m (2 * c.args.g + 1) (Some c.in-Some.rest) = subst (λ (r : Option ℕ). RestOf c.args.m (2 * c.args.g + 1) r) c.in-Some.is c.rest_of.ensures in
    let x : (2 * c.args.g + 1) * (2 * c.args.g + 1) + c.in-Some.rest ≡ c.args.m * 2 ^ 54 = w (omega arith) in
    c.above.ensures (c.args.m * 2 ^ 52) (omega arith)
