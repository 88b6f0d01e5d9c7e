-- `root_of` meets its contract: the patterns that it makes are the definition's. Assumes nothing.
use mathlib.Core.Path.{ap}
use Prim.Native.Nat.{ℕ, ◌+◌, ◌-◌, ◌*◌, ◌/◌}
use native.Mathlib.Omega.{arith}
use lib.Ieee.{binary64, of_bits}
use Rattle.root.proofs.Parts.{H}
use Rattle.root.proofs.Floats.{no_nan}
use Rattle.power.specs.Power.{root_of_pattern}
use Rattle.power.proofs.root_of.Goals as goal
use Rattle.power.proofs.root_of.Goals.{Start}

pub float_from_bits-result : goal.float_from_bits-result
float_from_bits-result c =
    no_nan (c.root_digits-m.result + 1 + (1022 + 840 / c.args.s - (c.args.b / H - 183) / c.args.s) * H) (omega (arith, c.root_digits-m.ensures.upper_bound))

pub returns : goal.returns
unfolding root_of_pattern
returns c =
    ap (λ (m : ℕ). of_bits binary64 (m + 1 + (1022 + 840 / c.args.s - (c.args.b / H - 183) / c.args.s) * H)) c.root_digits-m.ensures.value
