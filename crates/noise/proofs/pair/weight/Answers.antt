-- `weight` meets its contract. Assumes nothing.
use mathlib.Core.Path.{◌≡◌, refl, ap}
use lib.Ieee.{Float}
use Rattle.elementary.specs.Band.{number_of}
use Rattle.std.specs.Prelude.{Ok}
use Rattle.logarithm.specs.Ln.{ln_of}
use Rattle.noise.specs.Gathering.{weight_of}
use Rattle.noise.proofs.pair.weight.Goals as goal

number_is : (s y : Float) → Ok y ≡ ln_of s → y ≡ number_of (ln_of s)
unfolding number_of
number_is s y e = ap number_of e

pub returns : goal.returns
unfolding weight_of
returns c =
    rw (← number_is c.args.s c.ln_inside.result c.ln_inside.ensures.result_value) refl
