-- `singles` meets its contract: the taps that are left make of each row here what all of them make of it at the start. Assumes nothing.
use mathlib.Core.Path.{◌≡◌}
use Prim.Native.Nat.{ℕ, ◌-◌, ◌<◌}
use lib.ListN.{length}
use Rattle.fir.specs.Fir.{singles}
use Rattle.lanes.specs.Rows.{taps_at}
use Rattle.lanes.proofs.five.singles.Given as goal

abbrev pub invariant-loop-i : goal.invariant-loop-i
invariant-loop-i l =
    (k : ℕ) → k < 5 → singles l.a l.c (length l.c - l.i) l.i (taps_at k (length l.c) l.first l.second l.last l.s) ≡ singles l.a l.c (length l.c - l.from) l.from (taps_at k (length l.c) l.initial.first l.initial.second l.initial.last l.initial.s)
