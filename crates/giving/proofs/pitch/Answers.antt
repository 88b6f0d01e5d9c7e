-- `pitch` meets its contract. Assumes nothing.
use mathlib.Core.Path.{◌≡◌, refl, ap, ◌∙◌}
use lib.IntN.{pos}
use lib.Ieee.{Float, binary64, of_int}
use Rattle.number.specs.F64.{◌⊘◌}
use Rattle.number.specs.Range.{clamp_of}
use Rattle.exponential.specs.Exp.{exp_of}
use Rattle.std.specs.Prelude.{Some}
use Rattle.giving.specs.Pitch.{pitch_of}
use Rattle.giving.proofs.pitch.Goals as goal

pub returns-then-lf0-configuration : goal.returns-then-lf0-configuration
unfolding pitch_of
returns-then-lf0-configuration c = rw c.if-lf0-configuration.true refl

pub returns : goal.returns
unfolding pitch_of
returns c =
    let k : ◌≡◌ {A = Float} c.clamp-clamped.result (clamp_of c.args.lf0 c.args.configuration.low c.args.configuration.high) = c.clamp-clamped.ensures in
    let e : ◌≡◌ {A = Float} c.exp.result (exp_of c.clamp-clamped.result) = c.exp.ensures.value in
    rw c.if-lf0-configuration.false (ap (λ (x : Float). Some (of_int binary64 (pos c.args.configuration.rate) ⊘ x)) (e ∙ ap (λ (x : Float). exp_of x) k))
