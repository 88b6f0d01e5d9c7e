-- `estimate` does nothing undefined: the pattern that it makes is no NaN's. Assumes nothing.
use Rattle.std.proofs.Common.{◌-◌, ◌/◌, ◌%◌, arith}
use Rattle.root.proofs.Floats.{no_nan}
use Rattle.root.proofs.estimate.Goals as goal

pub float_from_bits-r0 : goal.float_from_bits-r0
float_from_bits-r0 c = no_nan (0x5fe6_eb50_c7b5_37a9 - c.bits_of.result % 0x8000_0000_0000_0000 / 2) (omega arith)
