-- `units` meets its contract, below a unit and from there on. Assumes nothing.
use Rattle.std.proofs.Common.{arith}
use Rattle.exponential.proofs.Scaled.{no_unit, shifted}
use Rattle.exponential.proofs.reduction.units.Goals as goal

pub returns-then-e-lt969 : goal.returns-then-e-lt969
returns-then-e-lt969 c = no_unit c.args.b c.if-e-lt969.true

pub returns : goal.returns
returns c = shifted c.args.b c.if-e-lt969.false (omega arith)
