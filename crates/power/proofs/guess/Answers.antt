-- `guess` meets its contract: no pattern that it makes is a NaN's, and what it returns is below 2 ^ 52. Assumes nothing.
use Prim.Native.Nat.{◌-◌, ◌/◌}
use native.Mathlib.Omega.{arith}
use Rattle.root.proofs.Floats.{no_nan}
use Rattle.power.proofs.guess.Goals as goal

pub float_from_bits-v : goal.float_from_bits-v
float_from_bits-v c = no_nan c.args.b (omega arith)

pub float_from_bits-first : goal.float_from_bits-first
float_from_bits-first c = no_nan (0x3fef_4000_0000_0000 - (c.args.b - 0x3ff0_0000_0000_0000) / c.args.s) (omega arith)
