-- `gc2gc_entry` meets its contract: the terms that are left give what all of them give, in both sums. Assumes nothing.
use mathlib.Core.Path.{◌≡◌}
use Prim.Native.Nat.{◌-◌, ◌≤◌}
use Rattle.number.specs.F64.{0f}
use Rattle.vectors.specs.Vectors.{sum_from}
use Rattle.generalized.specs.Generalized.{ss1_term, ss2_term}
use Rattle.generalized.proofs.gc2gc_entry.Given as goal

abbrev pub invariant-loop-k : goal.invariant-loop-k
invariant-loop-k l = (1 ≤ l.k) × (sum_from (ss1_term l.c l.d l.i) l.k (l.i - l.k) l.ss1 ≡ sum_from (ss1_term l.c l.d l.i) 1 (l.i - 1) 0f) × (sum_from (ss2_term l.c l.d l.i) l.k (l.i - l.k) l.ss2 ≡ sum_from (ss2_term l.c l.d l.i) 1 (l.i - 1) 0f)
