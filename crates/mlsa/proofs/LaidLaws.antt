-- Rows that stand one after the other: what is read and put there; and the second part on rows that are laid side by side. Assumes nothing.
use mathlib.Core.Path.{◌≡◌, refl, sym, ap, ◌∙◌}
use mathlib.Core.List.{List, [], ◌∷◌, ◌++◌, append_assoc}
use Prim.Native.Nat.{ℕ, zero, suc, ◌+◌, ◌-◌, ◌*◌, ◌≤◌, ◌<◌}
use native.Mathlib.Omega.{arith}
use lib.ListN.{length, take, drop, set, get_or}
use lib.Seq.{take_at, drop_at, take-append-add, drop-append-add, get_or-set_other, length-take-le}
use lib.Ieee.{Float, nan}
use Rattle.number.specs.F64.{◌‼◌, 0f}
use Rattle.number.specs.Lists.{row, put_row}
use Rattle.fir.specs.Fir.{Filtered, fir_of}
use Rattle.lanes.specs.declared.Pair.{Pair}
use Rattle.lanes.specs.declared.five.Five.{Five}
use Rattle.lanes.specs.Lane.{lane, side, pair_at}
use Rattle.lanes.specs.Rows.{row_at, number_at}
use Rattle.lanes.proofs.LaneLaws.{length_lane}
use Rattle.lanes.proofs.RowLaws.{each_row}
use Rattle.mlsa.specs.declared.Sums.{Sums}
use Rattle.mlsa.specs.Mlsa.{Part, part, weighed, second_row, downward, passed, ended, df2_of}
use Rattle.mlsa.specs.Laid.{joined, lanes_of, flat, answered}

-- ---- rows of n, one after the other

abbrev pub Each : ℕ → List (List Float) → Type 0
Each n [] = Unit {0}
Each n (r ∷ rs) = (length r ≡ n) × Each n rs

module _ (n : ℕ) where
  later : (k : ℕ) → suc k * n ≡ n + k * n
  later k = omega arith

  take_past : (r l : List Float) (m : ℕ) → length r ≡ n → take (n + m) (r ++ l) ≡ r ++ take m l
  take_past r l m e = rw (← e) (take-append-add r l m)

  drop_past : (r l : List Float) (m : ℕ) → length r ≡ n → drop (n + m) (r ++ l) ≡ drop m l
  drop_past r l m e = rw (← e) (drop-append-add r l m)

  -- behind all of them is the rest
  pub drop_joined : (rs : List (List Float)) (rest : List Float) → Each n rs → drop (length rs * n) (joined rs rest) ≡ rest
  drop_joined [] rest e =
      let none : 0 * n ≡ 0 = omega arith in
      rw none refl
  drop_joined (r ∷ rs) rest e = rw (later (length rs)) (drop_past r (joined rs rest) (length rs * n) e.0 ∙ drop_joined rs rest e.1)

  -- with another rest
  pub take_joined : (rs : List (List Float)) (rest t : List Float) → Each n rs → take (length rs * n) (joined rs rest) ++ t ≡ joined rs t
  take_joined [] rest t e =
      let none : 0 * n ≡ 0 = omega arith in
      rw none refl
  take_joined (r ∷ rs) rest t e =
      rw (later (length rs), take_past r (joined rs rest) (length rs * n) e.0, append_assoc r (take (length rs * n) (joined rs rest)) t)
      (ap (λ (l : List Float). r ++ l) (take_joined rs rest t e.1))

  -- row k is there
  pub row_joined : (rs : List (List Float)) (rest : List Float) (k : ℕ) → Each n rs → k < length rs → row (k * n) (k * n + n) (joined rs rest) ≡ get_or rs k []
  row_joined [] rest k e h = absurd (omega arith)
  row_joined (r ∷ rs) rest zero e h =
      let none : 0 * n ≡ 0 = omega arith in
      let wide : 0 + n - 0 ≡ n = omega arith in
      rw (none, wide) (take_at r (joined rs rest) n e.0)
  row_joined (r ∷ rs) rest (suc k) e h =
      let wide : n + k * n + n - (n + k * n) ≡ k * n + n - k * n = omega arith in
      rw (later k, wide, drop_past r (joined rs rest) (k * n) e.0) (row_joined rs rest k e.1 (omega arith))

  -- and another is put there
  pub put_joined : (rs : List (List Float)) (rest t : List Float) (k : ℕ) → Each n rs → k < length rs
      → put_row (k * n) (k * n + n) t (joined rs rest) ≡ joined (set rs k t) rest
  put_joined [] rest t k e h = absurd (omega arith)
  put_joined (r ∷ rs) rest t zero e h =
      let none : 0 * n ≡ 0 = omega arith in
      let wide : 0 + n - 0 ≡ n = omega arith in
      rw (none, wide, drop_at r (joined rs rest) n e.0) refl
  put_joined (r ∷ rs) rest t (suc k) e h =
      let wide : n + k * n + n - (n + k * n) ≡ k * n + n - k * n = omega arith in
      let below = joined rs rest in
      rw (later k, wide, take_past r below (k * n) e.0, drop_past r below (k * n) e.0, append_assoc r (take (k * n) below) (t ++ drop (k * n + n - k * n) (drop (k * n) below)))
      (ap (λ (l : List Float). r ++ l) (put_joined rs rest t k e.1 (omega arith)))

-- ---- the second part

lanes_each : (n : ℕ) (first second : List Float) → Each n (lanes_of n first second)
lanes_each n first second = (length_lane 0 n first, (length_lane 1 n first, (length_lane 0 n second, (length_lane 1 n second, tt))))

above : (l : List Float) (j k : ℕ) (v : Float) → k < j → l ‼ k ≡ set l j v ‼ k
above l j k v h = sym (get_or-set_other l j k v nan (λ e. omega arith))

module _ (alpha : Float) (c : List Float) where
  -- a row of some that stand one after the other, by its head x and the filter f that it comes to
  second_joined : (rs : List (List Float)) (rest d2 : List Float) (s : Sums) (k : ℕ) (x : Float) (f : Filtered) → Each (length c) rs → k < length rs
      → f ≡ fir_of alpha x c (get_or rs k []) → x ≡ d2 ‼ k
      → second_row alpha c (suc k) (part (joined rs rest) d2 s) ≡ part (joined (set rs k f.d) rest) (set d2 (suc k) f.y) (weighed (suc k) f.y s)
  unfolding second_row
  second_joined rs rest d2 s k x f e h made head =
      let before : suc k - 1 ≡ k = omega arith in
      let here : f ≡ fir_of alpha (d2 ‼ k) c (get_or rs k []) = made ∙ ap (λ (z : Float). fir_of alpha z c (get_or rs k [])) head in
      rw (before, row_joined (length c) rs rest k e h, ← here, put_joined (length c) rs rest f.d k e h) refl

  -- row 5 stands behind the lanes
  fifth_laid : (first second d21 d22 : List Float) (s : Sums) → 5 * length c ≤ length d21
      → second_row alpha c 5 (part (flat (length c) first second d21) d22 s)
      ≡ (let p = second_row alpha c 5 (part d21 d22 s) in part (flat (length c) first second p.d1) p.d2 p.sums)
  unfolding second_row flat
  fifth_laid first second d21 d22 s long =
      let n = length c in
      let rows = lanes_of n first second in
      let each = lanes_each n first second in
      let front : length (take (4 * n) d21) ≡ 4 * n = length-take-le (4 * n) d21 (omega arith) in
      let f = fir_of alpha (d22 ‼ 4) c (row (4 * n) (4 * n + n) d21) in
      let behind = f.d ++ drop (4 * n + n - 4 * n) (drop (4 * n) d21) in
      rw (drop_joined n rows (drop (4 * n) d21) each, take_joined n rows (drop (4 * n) d21) behind each, drop_at (take (4 * n) d21) behind (4 * n) front) refl

module _ (alpha : Float) (c first first' second second' last last' d22 : List Float) (heads y : Five Float)
    (at : (k : ℕ) → k < 5 → number_at k heads ≡ d22 ‼ k)
    (made : (k : ℕ) → k < 5 → ◌≡◌ {A = Filtered} (record { d = row_at k (length c) first' second' last'; y = number_at k y }) (fir_of alpha (number_at k heads) c (row_at k (length c) first second last))) where
  -- row 5, whose taps are a row of d21
  fifth : (d21 d21' : List Float) (s : Sums) → last ≡ row (4 * length c) (4 * length c + length c) d21 → d21' ≡ put_row (4 * length c) (4 * length c + length c) last' d21
      → second_row alpha c 5 (part d21 d22 s) ≡ part d21' (set d22 5 y.last) (weighed 5 y.last s)
  unfolding second_row
  fifth d21 d21' s there put =
      let from = 4 * length c in
      let to = from + length c in
      let f = made 4 (omega arith) ∙ ap (λ (x : Float). fir_of alpha x c last) (at 4 (omega arith)) ∙ ap (fir_of alpha (d22 ‼ 4) c) there in
      rw put (ap (λ (g : Filtered). part (put_row from to g.d d21) (set d22 5 g.y) (weighed 5 g.y s)) (sym f))

  -- rows 4 to 1 in lanes: each reads the answer of the row before it as it was
  four_laid : (s : Sums) (rest : List Float) → downward (second_row alpha c) 4 (part (joined (lanes_of (length c) first second) rest) (set d22 5 y.last) (weighed 5 y.last s))
      ≡ answered y (part (joined (lanes_of (length c) first' second') rest) d22 s)
  unfolding downward
  four_laid s rest =
      let n = length c in
      let r4 = lanes_of n first second in
      let r3 = set r4 3 (lane 1 n second') in
      let r2 = set r3 2 (lane 0 n second') in
      let r1 = set r2 1 (lane 1 n first') in
      let d4 = set d22 5 y.last in
      let d3 = set d4 4 y.second.b in
      let d2 = set d3 3 y.second.a in
      let d1 = set d2 2 y.first.b in
      let s4 = weighed 5 y.last s in
      let s3 = weighed 4 y.second.b s4 in
      let s2 = weighed 3 y.second.a s3 in
      let s1 = weighed 2 y.first.b s2 in
      let old0 = length_lane 0 n first in
      let old1 = length_lane 1 n first in
      let old2 = length_lane 0 n second in
      let new1 = length_lane 1 n first' in
      let new2 = length_lane 0 n second' in
      let new3 = length_lane 1 n second' in
      let at4 : (k : ℕ) → k < 5 → number_at k heads ≡ d4 ‼ k = λ k h. at k h ∙ above d22 5 k y.last h in
      let at3 : (k : ℕ) → k < 4 → number_at k heads ≡ d3 ‼ k = λ k h. at4 k (omega arith) ∙ above d4 4 k y.second.b h in
      let at2 : (k : ℕ) → k < 3 → number_at k heads ≡ d2 ‼ k = λ k h. at3 k (omega arith) ∙ above d3 3 k y.second.a h in
      let at1 : number_at 0 heads ≡ d1 ‼ 0 = at2 0 (omega arith) ∙ above d2 2 0 y.first.b (omega arith) in
      ap (downward (second_row alpha c) 3)
      (second_joined alpha c r4 rest d4 s4 3 _ _ (lanes_each n first second) (omega arith) (made 3 (omega arith)) (at4 3 (omega arith)))
      ∙ ap (downward (second_row alpha c) 2)
      (second_joined alpha c r3 rest d3 s3 2 _ _ (old0, (old1, (old2, (new3, tt)))) (omega arith) (made 2 (omega arith)) (at3 2 (omega arith)))
      ∙ ap (downward (second_row alpha c) 1)
      (second_joined alpha c r2 rest d2 s2 1 _ _ (old0, (old1, (new2, (new3, tt)))) (omega arith) (made 1 (omega arith)) (at2 1 (omega arith)))
      ∙ second_joined alpha c r1 rest d1 s1 0 _ _ (old0, (new1, (new2, (new3, tt)))) (omega arith) (made 0 (omega arith)) at1

  -- all five, and the sample that is passed on
  pub df2_laid : (d21 d21' d22' : List Float) (x r : Float) → 6 * length c ≤ length d21
      → last ≡ row (4 * length c) (4 * length c + length c) d21 → d21' ≡ put_row (4 * length c) (4 * length c + length c) last' d21
      → ((l : List Float) → passed l d22' r ≡ ended (answered y (part l d22 (record { x = x; out = 0f }))))
      → passed (flat (length c) first' second' d21') d22' r ≡ df2_of alpha c (flat (length c) first second d21) d22 x
  unfolding df2_of downward flat
  df2_laid d21 d21' d22' x r long there put weighs =
      let n = length c in
      let begun : Sums = record { x = x; out = 0f } in
      let laid : second_row alpha c 5 (part (flat n first second d21) d22 begun) ≡ part (flat n first second d21') (set d22 5 y.last) (weighed 5 y.last begun) =
      fifth_laid alpha c first second d21 d22 begun (omega arith) ∙ ap (λ (p : Part). part (flat n first second p.d1) p.d2 p.sums) (fifth d21 d21' begun there put) in
      weighs (flat n first' second' d21') ∙ ap ended (sym (ap (downward (second_row alpha c) 4) laid ∙ four_laid begun (drop (4 * n) d21')))

-- the heads of the rows, as they are read
pub heads_at : (d22 : List Float) (first second : Pair Float) (last : Float) → first ≡ pair_at d22 0 → second ≡ pair_at d22 1 → last ≡ d22 ‼ 4
    → (k : ℕ) → k < 5 → number_at k (record { first = first; second = second; last = last }) ≡ d22 ‼ k
heads_at d22 first second last e12 e34 e5 =
    each_row (λ k. number_at k (record { first = first; second = second; last = last }) ≡ d22 ‼ k) (ap (side 0) e12) (ap (side 1) e12) (ap (side 0) e34) (ap (side 1) e34) e5
