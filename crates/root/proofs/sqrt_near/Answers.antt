-- `sqrt_near` meets its contract, branch by branch. Assumes nothing.
use Rattle.std.proofs.Common.{T, sym, ◌∙◌, subst}
use lib.Ieee.{binary64, fits, of_bits, div}
use Rattle.root.proofs.Cases.{Above, above, bits_least, bits_most, root_above, at_infinity, at_zero, elsewhere}
use Rattle.root.proofs.sqrt_near.Goals as goal
use Rattle.root.proofs.sqrt_near.Goals.{Start, Then-x-2}

held : (c : Start) → T (fits binary64 c.args.x)
held c = subst T (sym c.well_formed.0.1) tt

-- where both tests pass it is a number above zero
positive : (c : Then-x-2) → Above c.args.x
unfolding of_bits div
positive c = above c.args.x c.if-x.true c.if-x-2.true

pub rounded-requires : goal.rounded-requires
rounded-requires c =
    (bits_least c.args.x (positive c) (held (goal.at.rounded-requires c).Start), bits_most c.args.x (positive c) (held (goal.at.rounded-requires c).Start))

pub returns-then-x-2 : goal.returns-then-x-2
returns-then-x-2 c = c.rounded.ensures ∙ root_above c.args.x (positive (goal.at.returns-then-x-2 c).Then-x-2) (held (goal.at.returns-then-x-2 c).Start)

pub returns-then-x : goal.returns-then-x
unfolding of_bits div
returns-then-x c = at_infinity c.args.x c.if-x.true c.if-x-2.false

pub returns-then-x-3 : goal.returns-then-x-3
unfolding of_bits
returns-then-x-3 c = at_zero c.args.x c.if-x-3.true

pub returns : goal.returns
unfolding of_bits div
returns c = elsewhere c.args.x c.if-x.false c.if-x-3.false
