-- `cos_both` meets its contract: each cosine is that of its argument. Assumes nothing.
use Rattle.std.proofs.Common.{◌≡◌, true, refl}
use Rattle.elementary.specs.Exact.{cos_inside}
use Rattle.cosine.proofs.Inside.{answer_inside, both_inside, both_outside}
use Rattle.cosine.proofs.cos_both.Goals as goal
use Rattle.cosine.proofs.cos_both.Goals.{Then-is_inside}

inside : (c : Then-is_inside) → (cos_inside c.args.x ≡ true) × (cos_inside c.args.y ≡ true)
inside c = both_inside _ _ (rw (c.is_inside.ensures, c.is_inside-2.ensures) at c.if-is_inside.true)

pub returns-then-is_inside : goal.returns-then-is_inside
returns-then-is_inside c =
    let e = answer_inside c.args.x c.rest_of.result c.cos_of_rests-cosines.result.first (inside (goal.at.returns-then-is_inside c).Then-is_inside).0 c.rest_of.ensures.0 c.cos_of_rests-cosines.ensures.0 in
    let f = answer_inside c.args.y c.rest_of-then-is_inside.result c.cos_of_rests-cosines.result.second (inside (goal.at.returns-then-is_inside c).Then-is_inside).1 c.rest_of-then-is_inside.ensures.0 c.cos_of_rests-cosines.ensures.1 in
    rw (← e, ← f) refl

pub returns-else-is_inside : goal.returns-else-is_inside
returns-else-is_inside c =
    both_outside c.args.x c.args.y (rw (c.is_inside.ensures, c.is_inside-2.ensures) at c.if-is_inside.false)
