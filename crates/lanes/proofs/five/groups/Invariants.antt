-- `groups` meets its contract: the groups that are left make of each row here what all of them make of it at the start. Assumes nothing.
use mathlib.Core.Path.{◌≡◌}
use Prim.Native.Nat.{ℕ, ◌+◌, ◌-◌, ◌*◌, ◌/◌, ◌<◌}
use lib.ListN.{length}
use Rattle.fir.specs.Fir.{groups}
use Rattle.lanes.specs.Rows.{taps_at}
use Rattle.lanes.proofs.five.groups.Given as goal

abbrev pub invariant-loop-g : goal.invariant-loop-g
invariant-loop-g l =
    (k : ℕ) → k < 5 → groups l.a l.c ((length l.c - 2) / 4 - l.g) (2 + 4 * l.g) (taps_at k (length l.c) l.first l.second l.last l.s) ≡ groups l.a l.c ((length l.c - 2) / 4) 2 (taps_at k (length l.c) l.initial.first l.initial.second l.initial.last l.initial.s)
