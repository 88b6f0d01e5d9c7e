-- `copy` meets its contract: the first i entries are copied. Assumes nothing.
use Rattle.std.proofs.Common.{◌≡◌, take}
use Rattle.number.specs.Lists.{over}
use Rattle.vectors.proofs.copy.Given as goal

abbrev pub invariant-loop-i : goal.invariant-loop-i
invariant-loop-i l = l.to ≡ over (take l.i l.from) l.i l.initial.to
