-- `of_pattern` meets its contract. Assumes nothing.
use mathlib.Core.Path.{refl}
use native.Mathlib.Omega.{arith}
use Rattle.root.proofs.Floats.{no_nan}
use Rattle.logarithm.specs.Ln.{field, part, turns, of_pattern}
use Rattle.logarithm.proofs.Pattern.{part_range}
use Rattle.logarithm.proofs.of_pattern.Goals as goal

pub float_from_bits-m : goal.float_from_bits-m
unfolding part field
float_from_bits-m c = no_nan (part c.args.b) (omega (arith, part_range c.args.b))

pub returns-then-m : goal.returns-then-m
unfolding of_pattern part field turns
returns-then-m c = rw c.if-m.true refl

pub returns-else-m : goal.returns-else-m
unfolding of_pattern part field turns
returns-else-m c = rw (c.near_one.ensures, c.if-m.false) refl
