-- `is_below` meets its contract: the products are the definition's. Assumes nothing.
use Prim.Native.Nat.{◌+◌}
use native.Mathlib.Omega.{arith}
use Rattle.root.proofs.Floats.{no_nan}
use Rattle.power.proofs.is_below.Goals as goal

pub float_from_bits-m : goal.float_from_bits-m
float_from_bits-m c = no_nan (0x3fe0_0000_0000_0000 + c.args.m) (omega arith)
