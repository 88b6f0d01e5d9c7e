-- `inverse_power` meets its contract, case by case. Assumes nothing.
use Rattle.std.specs.Prelude.{Ok}
use mathlib.Core.Path.{◌≡◌, sym, ap, ◌∙◌}
use mathlib.Core.Bool.{true}
use Prim.Native.Nat.{◌-◌}
use lib.Ieee.{Float}
use Rattle.number.specs.F64.{1f, ◌⊘◌}
use Rattle.elementary.specs.Exact.{power_inside}
use Rattle.power.specs.Power.{products, inverse_power_of}
use Rattle.power.proofs.Answers.{at_outside, at_one, elsewhere, power_meets}
use Rattle.power.proofs.inverse_power.Goals as goal
use Rattle.power.proofs.inverse_power.Goals.{Else-not-inside}

-- past the first test
arguments_inside : (c : Else-not-inside) → power_inside c.args.a c.args.s ≡ true
arguments_inside c = sym c.inside.ensures ∙ c.if-not-inside.false

pub returns-then-not-inside : goal.returns-then-not-inside
unfolding inverse_power_of
returns-then-not-inside c =
    let r = power_meets c.args.a c.args.s (at_outside c.args.a c.args.s (1f ⊘ products c.args.a c.args.a (c.args.s - 1)) (sym c.inside.ensures ∙ c.if-not-inside.true)) in
    record { value = r.0; inverse_power = r.1 }

pub returns-then-a : goal.returns-then-a
unfolding inverse_power_of
returns-then-a c =
    let r = power_meets c.args.a c.args.s (at_one c.args.a c.args.s (1f ⊘ products c.args.a c.args.a (c.args.s - 1)) (arguments_inside (goal.at.returns-then-a c).Else-not-inside) c.if-a.true) in
    record { value = r.0; inverse_power = r.1 }

pub returns : goal.returns
unfolding inverse_power_of
returns c =
    let r = power_meets c.args.a c.args.s (ap (λ (p : Float). Ok (1f ⊘ p)) c.times.ensures ∙ elsewhere c.args.a c.args.s (1f ⊘ products c.args.a c.args.a (c.args.s - 1)) (arguments_inside (goal.at.returns c).Else-not-inside) c.if-a.false) in
    record { value = r.0; inverse_power = r.1 }
