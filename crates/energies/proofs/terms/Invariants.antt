-- `terms` meets its contract: of both, the terms that are left give what all of them give. Assumes nothing.
use mathlib.Core.Path.{◌≡◌}
use Prim.Native.Nat.{◌+◌, ◌-◌, ◌*◌}
use Rattle.vectors.specs.Vectors.{sum_from}
use Rattle.cepstrum.specs.Weights.{weighed_term}
use Rattle.energies.specs.Pairs.{evens, odds}
use Rattle.energies.proofs.terms.Given as goal

abbrev pub invariant-loop-t : goal.invariant-loop-t
invariant-loop-t l =
    let k = l.from + 2 * l.t in
    (sum_from (weighed_term (evens l.w) (evens l.r) l.n) k (l.to - k) l.first ≡ sum_from (weighed_term (evens l.w) (evens l.r) l.n) l.from (l.to - l.from) l.initial.first) × (sum_from (weighed_term (odds l.w) (odds l.r) l.n) k (l.to - k) l.second ≡ sum_from (weighed_term (odds l.w) (odds l.r) l.n) l.from (l.to - l.from) l.initial.second)
