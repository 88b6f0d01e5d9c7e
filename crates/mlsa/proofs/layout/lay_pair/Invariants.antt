-- `lay_pair` meets its contract: the first i taps of each lane are those of its row. Assumes nothing.
use mathlib.Core.Path.{◌≡◌}
use Prim.Native.Nat.{ℕ, ◌+◌, ◌*◌, ◌<◌}
use lib.ListN.{take, drop}
use Rattle.lanes.specs.Lane.{lane}
use Rattle.mlsa.proofs.layout.lay_pair.Given as goal

abbrev pub invariant-loop-i : goal.invariant-loop-i
invariant-loop-i l =
    (k : ℕ) → k < 2 → take l.i (lane k l.n l.pair) ≡ take l.i (drop (l.from + k * l.n) l.d21)
