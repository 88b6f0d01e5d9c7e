-- What is read and stored in a lane. Assumes nothing.
use mathlib.Core.Path.{◌≡◌, refl, ap, ◌∙◌}
use mathlib.Core.Logic.{◌≢◌}
use mathlib.Core.List.{List}
use Prim.Native.Nat.{ℕ, zero, suc, ◌+◌, ◌*◌, ◌≤◌, ◌<◌}
use native.Mathlib.Omega.{arith}
use lib.ListN.{length, drop, set, length-drop}
use lib.Seq.{get_or-drop, get_or-set_same, get_or-set_other, drop-set-lt, drop-set-add}
use lib.Ieee.{Float, nan}
use Rattle.number.specs.F64.{◌‼◌}
use Rattle.lanes.specs.Lane.{lane}

pub length_lane : (k n : ℕ) (l : List Float) → length (lane k n l) ≡ n
unfolding lane
length_lane k zero l = refl
length_lane k (suc n) l = ap suc (length_lane k n (drop 2 l))

-- entry i of lane k
pub lane_at : (k n i : ℕ) (l : List Float) → i < n → lane k n l ‼ i ≡ l ‼ (2 * i + k)
unfolding lane
lane_at k zero i l h = absurd (omega arith)
lane_at k (suc n) zero l h =
    let first : 2 * 0 + k ≡ k = omega arith in
    rw first refl
lane_at k (suc n) (suc i) l h =
    let later : 2 * suc i + k ≡ 2 + (2 * i + k) = omega arith in
    rw later (lane_at k n i (drop 2 l) (omega arith) ∙ get_or-drop 2 l (2 * i + k) nan)

-- a store at entry i of lane k is one in lane k
pub lane_set : (k n i : ℕ) (l : List Float) (v : Float) → k < 2 → i < n → 2 * n ≤ length l → lane k n (set l (2 * i + k) v) ≡ set (lane k n l) i v
unfolding lane
lane_set k zero i l v kh h long = absurd (omega arith)
lane_set k (suc n) zero l v kh h long =
    let first : 2 * 0 + k ≡ k = omega arith in
    rw (first, get_or-set_same l k v nan (omega arith), drop-set-lt 2 l k v kh) refl
lane_set k (suc n) (suc i) l v kh h long =
    let later : 2 * suc i + k ≡ 2 + (2 * i + k) = omega arith in
    let other : k ≢ 2 + (2 * i + k) = λ e. omega arith in
    let shorter : 2 * n ≤ length (drop 2 l) = simp length-drop (omega arith) in
    rw (later, get_or-set_other l (2 + (2 * i + k)) k v nan other, drop-set-add 2 l (2 * i + k) v, lane_set k n i (drop 2 l) v kh (omega arith) shorter) refl

-- and leaves the other lanes as they were
pub lane_set_other : (j k n i : ℕ) (l : List Float) (v : Float) → j < 2 → k < 2 → j ≢ k → lane j n (set l (2 * i + k) v) ≡ lane j n l
unfolding lane
lane_set_other j k zero i l v jh kh ne = refl
lane_set_other j k (suc n) zero l v jh kh ne =
    let first : 2 * 0 + k ≡ k = omega arith in
    rw (first, get_or-set_other l k j v nan ne, drop-set-lt 2 l k v kh) refl
lane_set_other j k (suc n) (suc i) l v jh kh ne =
    let later : 2 * suc i + k ≡ 2 + (2 * i + k) = omega arith in
    let other : j ≢ 2 + (2 * i + k) = λ e. omega arith in
    rw (later, get_or-set_other l (2 + (2 * i + k)) j v nan other, drop-set-add 2 l (2 * i + k) v, lane_set_other j k n i (drop 2 l) v jh kh ne) refl

-- what holds of each of the two lanes
pub each_lane : (P : ℕ → Type 0) → P 0 → P 1 → (k : ℕ) → k < 2 → P k
each_lane P p q zero h = p
each_lane P p q (suc zero) h = q
each_lane P p q (suc (suc k)) h = absurd (omega arith)
