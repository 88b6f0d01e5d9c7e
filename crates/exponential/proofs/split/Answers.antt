-- `split` meets its contract, branch by branch. Assumes nothing.
use Rattle.std.proofs.Common.{◌≡◌, ℕ, ◌^◌, ◌≤◌, Bool, T, leb, sym, ap, ◌∙◌, subst}
use lib.Ieee.{binary64, of_bits, div, to_bits}
use Rattle.exponential.specs.Exp.{units, inside_of}
use Rattle.exponential.proofs.Guess.{Nearest, limit}
use Rattle.exponential.proofs.Branches.{at_nan, above, below, Inside, inside, bits_most, sign_is, units_are, units_small, rest_small, inside_is}
use Rattle.exponential.proofs.Together.{joined_nan, joined_infinity, joined_none}
use Rattle.exponential.proofs.split.Goals as goal
use Rattle.exponential.proofs.split.Goals.{After-nearest, After-units-u, Else-x-2}

pub returns-then-is_nan : goal.returns-then-is_nan
returns-then-is_nan c = joined_nan c.args.x (sym c.is_nan.ensures.value ∙ c.if-is_nan.true) ∙ at_nan c.args.x (sym c.is_nan.ensures.value ∙ c.if-is_nan.true)

pub returns-then-x : goal.returns-then-x
unfolding of_bits div
returns-then-x c =
    joined_infinity ∙ above c.args.x (sym c.is_nan.ensures.value ∙ c.if-is_nan.false) c.if-x.true

pub returns-then-x-2 : goal.returns-then-x-2
returns-then-x-2 c =
    joined_none ∙ below c.args.x (sym c.is_nan.ensures.value ∙ c.if-is_nan.false) c.if-x.false c.if-x-2.true

-- past the tests the argument is inside
within : (c : Else-x-2) → Inside c.args.x
within c = inside c.args.x (subst T (sym c.well_formed.0.1) tt) (sym c.is_nan.ensures.value ∙ c.if-is_nan.false) c.if-x.false c.if-x-2.false

pub units-u-requires : goal.units-u-requires
units-u-requires c = bits_most c.args.x (within c)

-- the units are the definition's, and so is what is nearest to them
units_of : (c : After-units-u) → c.units-u.result ≡ units c.args.x
units_of c = c.units-u.ensures ∙ units_are c.args.x (within c.before)

pub nearest-requires : goal.nearest-requires
nearest-requires c = subst (λ (u : ℕ). u ≤ limit) (sym (units_of c)) (units_small c.args.x (within (goal.at.nearest-requires c).Else-x-2))

nearest_of : (c : After-nearest) → Nearest (units c.args.x) c.nearest.result
nearest_of c = subst (λ (u : ℕ). Nearest u c.nearest.result) (units_of c.before) c.nearest.ensures

pub inside-requires : goal.inside-requires
inside-requires c = (c.nearest.ensures.0, rw (units_of (goal.at.inside-requires c).After-units-u) (rest_small c.args.x (within (goal.at.inside-requires c).Else-x-2) c.nearest.result (nearest_of c)))

pub returns : goal.returns
returns c =
    let i = within (goal.at.returns c).Else-x-2 in
    c.inside.ensures ∙ ap (λ (u : ℕ). inside_of (leb (2 ^ 63) (to_bits binary64 c.args.x)) u c.nearest.result) (units_of (goal.at.returns c).After-units-u) ∙ ap (λ (b : Bool). inside_of b (units c.args.x) c.nearest.result) (sign_is c.args.x i)
    ∙ inside_is c.args.x i c.nearest.result (nearest_of (goal.at.returns c).After-nearest)
