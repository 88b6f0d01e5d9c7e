-- `add_apart` meets its contract. Assumes nothing.
use native.Mathlib.Omega.{arith}
use Rattle.delay.proofs.LineLaws.{pulse_apart}
use Rattle.delay.proofs.add_apart.Goals as goal

pub returns : goal.returns
returns c =
    pulse_apart c.args.c c.args.lpf.now c.args.line.now c.add_each.new.line (omega arith) (omega arith) c.add_each.ensures
