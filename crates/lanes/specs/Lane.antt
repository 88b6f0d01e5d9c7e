-- Two rows side by side in one list: entry 2 * i + k is entry i of row k, which is called lane k. Assumes nothing.
use Rattle.std.specs.Prelude.{◌≡◌, refl, List, [], ◌∷◌, ℕ, zero, suc, ◌+◌, ◌*◌, drop, set, Float}
use Rattle.number.specs.F64.{◌‼◌, 0f, ½f, 1f, 2f}
use Rattle.fir.specs.declared.Carried.{Carried}
use Rattle.fir.specs.Fir.{Taps}
use Rattle.lanes.specs.declared.Pair.{Pair}

-- the first n entries of lane k
unfoldable pub lane : ℕ → ℕ → List Float → List Float
lane k zero l = []
lane k (suc n) l = l ‼ k ∷ lane k n (drop 2 l)

-- of a number for each lane, that of lane k
abbrev pub side : ℕ → Pair Float → Float
side zero p = p.a
side (suc k) p = p.b

-- entry i of each lane
abbrev pub pair_at : List Float → ℕ → Pair Float
pair_at l i = record { a = l ‼ (2 * i); b = l ‼ (2 * i + 1) }

-- the list with the entries i of the lanes set
abbrev pub put_pair : List Float → ℕ → Pair Float → List Float
put_pair l i p = set (set l (2 * i) p.a) (2 * i + 1) p.b

-- of what is carried for each lane, that of lane k
abbrev pub side_on : ℕ → Pair Carried → Carried
side_on zero s = s.a
side_on (suc k) s = s.b

-- the taps of lane k, and what is carried on to its next
abbrev pub taps_of : ℕ → ℕ → List Float → Pair Carried → Taps
taps_of k n l s = record { d = lane k n l; on = side_on k s }

-- four numbers: lane 1 is ½, 2, and with 0, 1 at entry 1 it is ½, 1
abbrev two_each : List Float
two_each = 0f ∷ ½f ∷ 1f ∷ 2f ∷ []

pub second_lane : lane 1 2 two_each ≡ ½f ∷ 2f ∷ []
unfolding lane
second_lane = refl

pub second_lane_put : lane 1 2 (put_pair two_each 1 (record { a = 0f; b = 1f })) ≡ ½f ∷ 1f ∷ []
unfolding lane
second_lane_put = refl
