-- `rest`: its words are those of the definition's numbers. Assumes nothing.
use Rattle.std.proofs.Common.{◌≡◌, ℕ, ◌*◌, ◌/◌, ◌^◌, ◌≤◌, sym, arith}
use Rattle.root.specs.Parts.{pattern_units}
use Rattle.cosine.specs.Cos.{one, gap}
use Rattle.cosine.proofs.Pattern.{units_most, whole_part}
use Rattle.cosine.proofs.Rest.{turns_room, few_turns, multiple_at, gap_small, far_small, over_half, up_to_half}
use Rattle.cosine.proofs.angle.rest.Goals as goal
use Rattle.cosine.proofs.angle.rest.Goals.{After-distance-far, After-units, Start}

abbrev u : ℕ → ℕ
u b = pattern_units b * 2 ^ 59 / 2 ^ 1074

most : (c : Start) → u c.args.b ≤ 2 ^ 79
most c = units_most c.args.b c.requires

whole : (c : After-units) → c.units.result ≡ u c.args.b / one
whole c = whole_part c.args.b c.units.result c.requires c.units.ensures

-- the distance
far : (c : After-distance-far) → c.distance-far.result ≡ gap (u c.args.b) (multiple_at c.units.result)
far c =
    c.distance-far.ensures (u c.args.b) (multiple_at c.units.result) (sym c.units-2.ensures) (sym c.multiple_of.ensures) (gap_small (u c.args.b) c.units.result (units_most c.args.b c.requires) (whole_part c.args.b c.units.result c.requires c.units.ensures))

pub overflow_mul-k : goal.overflow_mul-k
overflow_mul-k c = let r = turns_room (u c.args.b) c.units.result (most (goal.at.overflow_mul-k c).Start) (whole c) in omega arith

pub overflow_add-k : goal.overflow_add-k
overflow_add-k c = record { fits = turns_room (u c.args.b) c.units.result (most (goal.at.overflow_add-k c).Start) (whole c) }

pub multiple_of-requires : goal.multiple_of-requires
multiple_of-requires c = few_turns (u c.args.b) c.units.result (most (goal.at.multiple_of-requires c).Start) (whole (goal.at.multiple_of-requires c).After-units)

pub overflow_sub-result : goal.overflow_sub-result
overflow_sub-result c = far_small (u c.args.b) c.units.result (most (goal.at.overflow_sub-result c).Start) (whole (goal.at.overflow_sub-result c).After-units) c.distance-far.result (far (goal.at.overflow_sub-result c).After-distance-far)

pub returns-then-far-gt1811004864519280710 : goal.returns-then-far-gt1811004864519280710
returns-then-far-gt1811004864519280710 c = over_half (u c.args.b) c.units.result (most (goal.at.returns-then-far-gt1811004864519280710 c).Start) (whole (goal.at.returns-then-far-gt1811004864519280710 c).After-units) c.distance-far.result (far (goal.at.returns-then-far-gt1811004864519280710 c).After-distance-far) c.if-far-gt1811004864519280710.true

pub returns-else-far-gt1811004864519280710 : goal.returns-else-far-gt1811004864519280710
returns-else-far-gt1811004864519280710 c = up_to_half (u c.args.b) c.units.result (most (goal.at.returns-else-far-gt1811004864519280710 c).Start) (whole (goal.at.returns-else-far-gt1811004864519280710 c).After-units) c.distance-far.result (far (goal.at.returns-else-far-gt1811004864519280710 c).After-distance-far) c.if-far-gt1811004864519280710.false
