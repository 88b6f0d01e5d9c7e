-- `word`: the law of its steps and its sum. Assumes nothing.
use mathlib.Core.Path.{◌≡◌, ◌∙◌, sym, ap}
use mathlib.Core.Bool.{Bool, cond}
use lib.Ieee.{is_nan}
use Rattle.number.specs.F64.{0f, ◌⊗◌}
use Rattle.pcm.proofs.SampleLaws.{word_of_lem, limits_ordered}
use Rattle.pcm.proofs.word.Goals as goal
use Rattle.pcm.proofs.word.Goals.{Joined-is_nan, then-is_nan, else-is_nan}

pub clamp-requires : goal.clamp-requires
clamp-requires c = limits_ordered _ _ _ c.requires.0 c.requires.1

number_is : (c : Joined-is_nan) → c.if-is_nan.number ≡ cond (is_nan (c.args.x ⊗ c.args.scale)) 0f (c.args.x ⊗ c.args.scale)
number_is c =
    elim c.if-is_nan.branch [
      | then-is_nan w ↦ w.number-is ∙ sym (ap (λ (b : Bool). cond b 0f (c.args.x ⊗ c.args.scale)) (sym c.is_nan.ensures.value ∙ w.if-is_nan.true))
      | else-is_nan w ↦ w.number-is ∙ sym (ap (λ (b : Bool). cond b 0f (c.args.x ⊗ c.args.scale)) (sym c.is_nan.ensures.value ∙ w.if-is_nan.false))
    ]

pub float_to_bits-result : goal.float_to_bits-result
float_to_bits-result c =
    (word_of_lem c.args.x c.args.scale c.args.low c.args.high _ _ c.requires.0 c.requires.1 (number_is (goal.at.float_to_bits-result c).Joined-is_nan) c.clamp.ensures.value).0

pub returns : goal.returns
returns c h l =
    (word_of_lem c.args.x c.args.scale c.args.low c.args.high _ _ h l (number_is (goal.at.returns c).Joined-is_nan) c.clamp.ensures.value).1
