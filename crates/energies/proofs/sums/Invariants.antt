-- `sums` meets its contract: of both, the terms that are left give what all of them give; where none can change either sum, both are done. Assumes nothing.
use mathlib.Core.Path.{◌≡◌}
use Prim.Native.Nat.{◌+◌, ◌-◌, ◌*◌}
use Rattle.number.specs.F64.{0f}
use Rattle.vectors.specs.Vectors.{sum_from}
use Rattle.cepstrum.specs.Weights.{weighed_term}
use Rattle.energies.specs.Pairs.{evens, odds}
use Rattle.energies.proofs.sums.Given as goal

abbrev pub invariant-loop-t : goal.invariant-loop-t
invariant-loop-t l =
    let k = 1 + 32 * l.t in
    (sum_from (weighed_term (evens l.w) (evens l.r) l.n) k (l.n + 1 - k) l.d.0 ≡ sum_from (weighed_term (evens l.w) (evens l.r) l.n) 1 l.n 0f) × (sum_from (weighed_term (odds l.w) (odds l.r) l.n) k (l.n + 1 - k) l.d.1 ≡ sum_from (weighed_term (odds l.w) (odds l.r) l.n) 1 l.n 0f)
