-- Rows laid side by side and back, a turn at a time and in the end. Assumes nothing.
use mathlib.Core.Path.{◌≡◌, refl, sym, ap, ◌∙◌}
use mathlib.Core.List.{List, [], ◌∷◌, ◌++◌}
use Prim.Native.Nat.{ℕ, ◌+◌, ◌-◌, ◌*◌, ◌≤◌, ◌<◌}
use native.Mathlib.Omega.{arith}
use native.Mathlib.Numerals.{add-one}
use lib.ListN.{length, take, drop, set, length-take, length-drop, take-append-drop}
use lib.Seq.{take_all, take-suc, take-suc-set, drop-drop, get_or-drop}
use lib.Ieee.{Float, nan}
use Rattle.number.specs.F64.{◌‼◌}
use Rattle.number.specs.Lists.{over, row, put_row}
use Rattle.number.proofs.Lists.{over_known, over_end}
use Rattle.lanes.specs.Lane.{lane}
use Rattle.lanes.proofs.LaneLaws.{length_lane, lane_at}
use Rattle.mlsa.specs.Laid.{joined, flat}
use Rattle.mlsa.proofs.LaidLaws.{Each, put_joined}

-- ---- a list as its first four rows of n, and the rest

abbrev rows_of : ℕ → List Float → List (List Float)
rows_of n d = take n (drop (0 * n) d) ∷ take n (drop (1 * n) d) ∷ take n (drop (2 * n) d) ∷ take n (drop (3 * n) d) ∷ []

cut : (n a b : ℕ) (l : List Float) → a + n ≡ b → take n (drop a l) ++ drop b l ≡ drop a l
cut n a b l e = rw (← e, ← drop-drop n a l) (take-append-drop n (drop a l))

all_rows : (n : ℕ) (d : List Float) → joined (rows_of n d) (drop (4 * n) d) ≡ d
all_rows n d =
    let none : 0 * n ≡ 0 = omega arith in
    rw (cut n (3 * n) (4 * n) d (omega arith), cut n (2 * n) (3 * n) d (omega arith), cut n (1 * n) (2 * n) d (omega arith), cut n (0 * n) (1 * n) d (omega arith), none) refl

rows_each : (n : ℕ) (d : List Float) → 4 * n ≤ length d → Each n (rows_of n d)
rows_each n d long = (one 0 (omega arith), (one 1 (omega arith), (one 2 (omega arith), (one 3 (omega arith), tt))))
  where
    one : (k : ℕ) → k * n + n ≤ length d → length (take n (drop (k * n) d)) ≡ n
    one k h = simp (length-take, length-drop) (omega arith)

-- ---- laid

-- one more tap of a row that begins at a
pub lay_turn : (n i a : ℕ) (l after d : List Float) → length l ≡ n → i < n → a + n ≤ length d → take i l ≡ take i (drop a d)
    → after ≡ set l i (d ‼ (a + i)) → take (i + 1) after ≡ take (i + 1) (drop a d)
lay_turn n i a l after d len h long e stored =
    let here : i < length l = omega arith in
    let there : i < length (drop a d) = simp length-drop (omega arith) in
    rw (stored, add-one i, take-suc-set l i (d ‼ (a + i)) here, take-suc (drop a d) i nan there, get_or-drop a d i nan, e) refl

pub lay_end : (k n i a : ℕ) (pair d : List Float) → i ≡ n → take i (lane k n pair) ≡ take i (drop a d) → lane k n pair ≡ take n (drop a d)
lay_end k n i a pair d e laid =
    let short : length (lane k n pair) ≤ n = omega (arith, length_lane k n pair) in
    sym (take_all n (lane k n pair) short) ∙ rw e at laid

-- both pairs
pub lay_all : (n : ℕ) (first second d : List Float) → ((k : ℕ) → k < 2 → lane k n first ≡ take n (drop (0 + k * n) d))
    → ((k : ℕ) → k < 2 → lane k n second ≡ take n (drop (2 * n + k * n) d)) → flat n first second d ≡ d
unfolding flat
lay_all n first second d one two =
    rw (
      one 0 (omega arith) ∙ from (0 + 0 * n) (0 * n) (omega arith),
      one 1 (omega arith) ∙ from (0 + 1 * n) (1 * n) (omega arith),
      two 0 (omega arith) ∙ from (2 * n + 0 * n) (2 * n) (omega arith),
      two 1 (omega arith) ∙ from (2 * n + 1 * n) (3 * n) (omega arith),
    ) (all_rows n d)
  where
    from : (a b : ℕ) → a ≡ b → take n (drop a d) ≡ take n (drop b d)
    from a b e = ap (λ (m : ℕ). take n (drop m d)) e

-- ---- laid back

module _ (k n i : ℕ) (pair out d : List Float) (e : length d ≡ n) (here : out ≡ over (take i (lane k n pair)) i d) where
  pub back_turn : i < n → set out i (pair ‼ (2 * i + k)) ≡ over (take (i + 1) (lane k n pair)) (i + 1) d
  back_turn h =
      let within : i < length (lane k n pair) = omega (arith, length_lane k n pair) in
      rw (here, ← lane_at k n i pair h) (over_known (lane k n pair) d i nan within (omega arith))

  pub back_end : n ≤ i → out ≡ lane k n pair
  back_end h =
      let short : length (lane k n pair) ≤ i = omega (arith, length_lane k n pair) in
      here ∙ over_end (take i (lane k n pair)) d i (omega arith) ∙ take_all i (lane k n pair) short

-- the four rows, one after the other
pub back_all : (n : ℕ) (first second d l1 l2 l3 l4 : List Float) → 4 * n ≤ length d
    → l1 ≡ put_row (0 * n) (0 * n + n) (lane 0 n first) d → l2 ≡ put_row (1 * n) (1 * n + n) (lane 1 n first) l1
    → l3 ≡ put_row (2 * n) (2 * n + n) (lane 0 n second) l2 → l4 ≡ put_row (3 * n) (3 * n + n) (lane 1 n second) l3 → l4 ≡ flat n first second d
unfolding flat
back_all n first second d l1 l2 l3 l4 long e0 e1 e2 e3 =
    let old = rows_each n d long in
    let rs = rows_of n d in
    let after0 = set rs 0 (lane 0 n first) in
    let after1 = set after0 1 (lane 1 n first) in
    let after2 = set after1 2 (lane 0 n second) in
    let len0 = length_lane 0 n first in
    let len1 = length_lane 1 n first in
    let len2 = length_lane 0 n second in
    let one : l1 ≡ joined after0 (drop (4 * n) d) = put rs 0 d l1 (lane 0 n first) old (omega arith) (sym (all_rows n d)) e0 in
    let two : l2 ≡ joined after1 (drop (4 * n) d) = put after0 1 l1 l2 (lane 1 n first) (len0, old.1) (omega arith) one e1 in
    let three : l3 ≡ joined after2 (drop (4 * n) d) = put after1 2 l2 l3 (lane 0 n second) (len0, (len1, old.1.1)) (omega arith) two e2 in
    put after2 3 l3 l4 (lane 1 n second) (len0, (len1, (len2, old.1.1.1))) (omega arith) three e3
  where
    put : (rs : List (List Float)) (k : ℕ) (l after t : List Float) → Each n rs → k < length rs → l ≡ joined rs (drop (4 * n) d)
        → after ≡ put_row (k * n) (k * n + n) t l → after ≡ joined (set rs k t) (drop (4 * n) d)
    put rs k l after t each h was e = e ∙ ap (put_row (k * n) (k * n + n) t) was ∙ put_joined n rs (drop (4 * n) d) t k each h
