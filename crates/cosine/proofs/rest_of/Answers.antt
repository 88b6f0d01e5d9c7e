-- `rest_of` meets its contract: the bits without the sign have the size's number. Assumes nothing.
use Rattle.std.proofs.Common.{T, sym, ◌∙◌, subst}
use lib.Ieee.{binary64, fits}
use Rattle.elementary.specs.Exact.{cos_inside}
use Rattle.cosine.proofs.Inside.{inside_bits, inside_rest}
use Rattle.cosine.proofs.rest_of.Goals as goal
use Rattle.cosine.proofs.rest_of.Goals.{Start}

held : (c : Start) → T (fits binary64 c.args.x)
held c = subst T (sym c.well_formed.0.1) tt

inside : (c : Start) → T (cos_inside c.args.x)
inside c = subst T (sym c.requires) tt

pub rest-requires : goal.rest-requires
rest-requires c = inside_bits c.args.x (held c) (inside c)

pub returns : goal.returns
returns c =
    (c.rest.ensures.0 ∙ inside_rest c.args.x (held (goal.at.returns c).Start) (inside (goal.at.returns c).Start), c.rest.ensures.1)
