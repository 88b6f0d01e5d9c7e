-- `weigh` meets its contract. Assumes nothing.
use mathlib.Core.Path.{refl}
use borrow.Author.Tests.{eq-eqb, ne_eqb}
use Rattle.mlsa.specs.Mlsa.{weighed}
use Rattle.mlsa.proofs.Sums.weigh.Goals as goal
use Rattle.mlsa.proofs.Sums.weigh.Goals.{then-i-eq1, else-i-eq1}

pub returns : goal.returns
unfolding weighed
returns c = elim c.if-i-eq1.branch [
  | then-i-eq1 w ↦ rw (w.turned-is, eq-eqb _ _ w.if-i-eq1.true) refl
  | else-i-eq1 w ↦ rw (w.turned-is, ne_eqb _ _ w.if-i-eq1.false) refl
]
