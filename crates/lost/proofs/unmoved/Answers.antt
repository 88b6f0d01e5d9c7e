-- `unmoved` meets its contract: what it answers is whether the product of the largest numbers is lost. Assumes nothing.
use mathlib.Core.Path.{refl, sym, subst, ◌∙◌}
use native.Mathlib.Omega.{arith}
use lib.Dec.{T}
use lib.Ieee.{binary64, fits}
use Rattle.root.proofs.Floats.{no_nan}
use Rattle.lost.proofs.LostLaws.{lost_above, lost_below}
use Rattle.lost.proofs.unmoved.Goals as goal

pub float_from_bits-most : goal.float_from_bits-most
float_from_bits-most c = no_nan _ (omega arith)

pub float_from_bits-most-2 : goal.float_from_bits-most-2
float_from_bits-most-2 c = no_nan _ (omega arith)

pub returns-then-d : goal.returns-then-d
returns-then-d c e =
    let held : T (fits binary64 c.args.d) = subst T (sym c.well_formed.0.1) tt in
    lost_below c.args.p c.args.q (omega arith) (omega arith) _ refl c.args.d held (sym c.lost_in.ensures ∙ e)

pub returns : goal.returns
returns c e =
    let held : T (fits binary64 c.args.d) = subst T (sym c.well_formed.0.1) tt in
    lost_above c.args.p c.args.q (omega arith) (omega arith) _ refl c.args.d held (sym c.lost_in-2.ensures ∙ e)
