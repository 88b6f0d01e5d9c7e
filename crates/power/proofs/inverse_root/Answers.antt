-- `inverse_root` meets its contract, case by case. Assumes nothing.
use Rattle.std.specs.Prelude.{Ok}
use mathlib.Core.Path.{◌≡◌, sym, ap, ◌∙◌, subst}
use mathlib.Core.Bool.{true}
use lib.Dec.{T}
use lib.Ieee.{Float, binary64, fits, to_bits}
use Rattle.elementary.specs.Exact.{power_inside}
use Rattle.power.specs.Power.{root_of_pattern, inverse_root_of}
use Rattle.power.proofs.Base.{Base, base_of}
use Rattle.power.proofs.Patterns.{bits}
use Rattle.power.proofs.Answers.{at_outside, at_one, elsewhere, root_meets}
use Rattle.power.proofs.inverse_root.Goals as goal
use Rattle.power.proofs.inverse_root.Goals.{Else-a, Else-not-inside, Start}

-- binary64 holds the argument
held : (c : Start) → T (fits binary64 c.args.a)
held c = subst T (sym c.well_formed.0.1) tt

-- past the first test
arguments_inside : (c : Else-not-inside) → power_inside c.args.a c.args.s ≡ true
arguments_inside c = sym c.inside.ensures ∙ c.if-not-inside.false

based : (c : Else-a) → Base c.args.a c.args.s
based c = base_of c.args.a c.args.s (arguments_inside c.before)

pub returns-then-not-inside : goal.returns-then-not-inside
unfolding inverse_root_of
returns-then-not-inside c =
    let r = root_meets c.args.a c.args.s (held (goal.at.returns-then-not-inside c).Start) (at_outside c.args.a c.args.s (root_of_pattern (to_bits binary64 c.args.a) c.args.s) (sym c.inside.ensures ∙ c.if-not-inside.true)) in
    record { value = r.0; inverse_root = r.1 }

pub returns-then-a : goal.returns-then-a
unfolding inverse_root_of
returns-then-a c =
    let r = root_meets c.args.a c.args.s (held (goal.at.returns-then-a c).Start) (at_one c.args.a c.args.s (root_of_pattern (to_bits binary64 c.args.a) c.args.s) (arguments_inside (goal.at.returns-then-a c).Else-not-inside) c.if-a.true) in
    record { value = r.0; inverse_root = r.1 }

pub root_of-requires : goal.root_of-requires
root_of-requires c =
    let b = based c in
    let k = bits c.args.a c.args.s (held (goal.at.root_of-requires c).Start) b in
    record { fact_1 = (k.least, k.most); fact_2 = (b.from, b.upto) }

pub returns : goal.returns
unfolding inverse_root_of
returns c =
    let r = root_meets c.args.a c.args.s (held (goal.at.returns c).Start) (ap (λ (r : Float). Ok r) c.root_of.ensures ∙ elsewhere c.args.a c.args.s (root_of_pattern (to_bits binary64 c.args.a) c.args.s) (arguments_inside (goal.at.returns c).Else-not-inside) c.if-a.false) in
    record { value = r.0; inverse_root = r.1 }
