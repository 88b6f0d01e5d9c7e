-- `cos` meets its contract. Assumes nothing.
use Rattle.std.specs.Prelude.{Result}
use Rattle.std.proofs.Common.{◌≡◌, sym, ◌∙◌, subst, Float}
use Rattle.elementary.specs.Exact.{CosAnswer}
use Rattle.cosine.specs.Cos.{cos_of}
use Rattle.cosine.proofs.Meets.{meets}
use Rattle.cosine.proofs.Inside.{answer_inside, answer_outside}
use Rattle.cosine.proofs.cos.Goals as goal
use Rattle.cosine.proofs.cos.Goals.{Start}
use Rattle.elementary.specs.declared.answer.Outside.{Outside}

both : (c : Start) (r : Result Float Outside) → r ≡ cos_of c.args.x → (r ≡ cos_of c.args.x) × CosAnswer c.args.x r
both c r e = (e, subst (λ (z : Result Float Outside). CosAnswer c.args.x z) (sym e) (meets c.args.x))

pub returns-then-is_inside : goal.returns-then-is_inside
returns-then-is_inside c =
    let r = both (goal.at.returns-then-is_inside c).Start _ (answer_inside c.args.x c.rest_of-r.result c.cos_of_rests-cosines.result.first (sym c.is_inside.ensures ∙ c.if-is_inside.true) c.rest_of-r.ensures.0 c.cos_of_rests-cosines.ensures.0) in
    record { value = r.0; cos_answer = r.1 }

pub returns-else-is_inside : goal.returns-else-is_inside
returns-else-is_inside c =
    let r = both (goal.at.returns-else-is_inside c).Start _ (answer_outside c.args.x (sym c.is_inside.ensures ∙ c.if-is_inside.false)) in
    record { value = r.0; cos_answer = r.1 }
