-- What holds of each of the five rows, by what holds of the lanes of both pairs and of the row by itself. Assumes nothing.
use mathlib.Core.Path.{◌≡◌}
use mathlib.Core.List.{List}
use Prim.Native.Nat.{ℕ, zero, suc, ◌<◌}
use native.Mathlib.Omega.{arith}
use lib.ListN.{length}
use lib.Ieee.{Float}
use Rattle.lanes.specs.Rows.{row_at}
use Rattle.lanes.proofs.LaneLaws.{length_lane}

pub each_row : (P : ℕ → Type 0) → P 0 → P 1 → P 2 → P 3 → P 4 → (k : ℕ) → k < 5 → P k
each_row P p0 p1 p2 p3 p4 zero h = p0
each_row P p0 p1 p2 p3 p4 (suc zero) h = p1
each_row P p0 p1 p2 p3 p4 (suc (suc zero)) h = p2
each_row P p0 p1 p2 p3 p4 (suc (suc (suc zero))) h = p3
each_row P p0 p1 p2 p3 p4 (suc (suc (suc (suc zero)))) h = p4
each_row P p0 p1 p2 p3 p4 (suc (suc (suc (suc (suc k))))) h = absurd (omega arith)

pub length_row_at : (n : ℕ) (first second last : List Float) → length last ≡ n → (k : ℕ) → k < 5 → length (row_at k n first second last) ≡ n
length_row_at n first second last e =
    each_row (λ k. length (row_at k n first second last) ≡ n) (length_lane 0 n first) (length_lane 1 n first) (length_lane 0 n second) (length_lane 1 n second) e
