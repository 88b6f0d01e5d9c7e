-- `ir_sum` meets its contract: the terms that are left give what all of them give. Assumes nothing.
use mathlib.Core.Path.{◌≡◌}
use Prim.Native.Nat.{◌+◌, ◌-◌, ◌≤◌}
use Rattle.number.specs.F64.{0f}
use Rattle.vectors.specs.Vectors.{sum_from}
use Rattle.cepstrum.specs.Weights.{weighed_term}
use Rattle.cepstrum.proofs.cepstrum.ir_sum.Given as goal

abbrev pub invariant-loop-k : goal.invariant-loop-k
invariant-loop-k l = (1 ≤ l.k) × (sum_from (weighed_term l.w l.ir l.n) l.k (l.n + 1 - l.k) l.d ≡ sum_from (weighed_term l.w l.ir l.n) 1 l.n 0f)
