-- The taps of a lane by what is read, made and stored of both; and all taps of a lane. Assumes nothing.
use mathlib.Core.Path.{◌≡◌, ap, sym, ◌∙◌}
use mathlib.Core.List.{List, [], ◌∷◌}
use Prim.Native.Nat.{ℕ, ◌+◌, ◌*◌, ◌≤◌, ◌<◌}
use native.Mathlib.Omega.{arith}
use lib.ListN.{length, set, length-set}
use lib.Ieee.{Float}
use Rattle.number.specs.F64.{◌‼◌}
use Rattle.fir.specs.declared.Carried.{Carried}
use Rattle.fir.specs.Fir.{Taps, start, group, tap}
use Rattle.fir.proofs.FirLaws.{start_alone, group_alone, tap_alone}
use Rattle.lanes.specs.declared.Pair.{Pair}
use Rattle.lanes.specs.Lane.{lane, side, pair_at, put_pair}
use Rattle.lanes.proofs.LaneLaws.{lane_at, lane_set, lane_set_other, each_lane}

-- ---- entry i of both lanes, read and stored

-- as lane k has it
pub pair_read : (n i : ℕ) (l : List Float) (p : Pair Float) → p ≡ pair_at l i → i < n → (k : ℕ) → k < 2 → side k p ≡ lane k n l ‼ i
pair_read n i l p e h k kh = ap (side k) e ∙ each_lane (λ j. side j (pair_at l i) ≡ lane j n l ‼ i) (rw first at (sym (lane_at 0 n i l h))) (sym (lane_at 1 n i l h)) k kh
  where
    first : 2 * i + 0 ≡ 2 * i
    first = omega arith

module _ (n i : ℕ) (l m : List Float) (p : Pair Float) (e : m ≡ put_pair l i p) (h : i < n) (long : 2 * n ≤ length l) where
  pub pair_put : (k : ℕ) → k < 2 → lane k n m ≡ set (lane k n l) i (side k p)
  pair_put k kh = ap (lane k n) e ∙ each_lane (λ j. lane j n (put_pair l i p) ≡ set (lane j n l) i (side j p)) in_first in_second k kh
    where
      first : 2 * i + 0 ≡ 2 * i
      first = omega arith

      one : List Float
      one = set l (2 * i) p.a

      in_first : lane 0 n (put_pair l i p) ≡ set (lane 0 n l) i p.a
      in_first = lane_set_other 0 1 n i one p.b (omega arith) (omega arith) (λ z. omega arith) ∙ rw first at (lane_set 0 n i l p.a (omega arith) h long)

      in_second : lane 1 n (put_pair l i p) ≡ set (lane 1 n l) i p.b
      in_second =
          lane_set 1 n i one p.b (omega arith) h (simp length-set long)
          ∙ ap (λ (t : List Float). set t i p.b) (rw first at (lane_set_other 1 0 n i l p.a (omega arith) (omega arith) (λ z. omega arith)))

  pub put_long : 2 * n ≤ length m
  put_long = rw e (simp length-set long)

-- two entries stored from i on, and four
module _ (n i : ℕ) (l l1 l2 : List Float) (p0 p1 : Pair Float) (e0 : l1 ≡ put_pair l i p0) (e1 : l2 ≡ put_pair l1 (i + 1) p1) (h : i + 1 < n) (long : 2 * n ≤ length l) where
  pub two_put : (k : ℕ) → k < 2 → lane k n l2 ≡ set (set (lane k n l) i (side k p0)) (i + 1) (side k p1)
  two_put k kh =
      pair_put n (i + 1) l1 l2 p1 e1 h (put_long n i l l1 p0 e0 (omega arith) long) k kh
      ∙ ap (λ (t : List Float). set t (i + 1) (side k p1)) (pair_put n i l l1 p0 e0 (omega arith) long k kh)

  pub two_long : 2 * n ≤ length l2
  two_long = put_long n (i + 1) l1 l2 p1 e1 h (put_long n i l l1 p0 e0 (omega arith) long)

module _ (n i : ℕ) (l l1 l2 l3 l4 : List Float) (p0 p1 p2 p3 : Pair Float)
    (e0 : l1 ≡ put_pair l i p0) (e1 : l2 ≡ put_pair l1 (i + 1) p1) (e2 : l3 ≡ put_pair l2 (i + 2) p2) (e3 : l4 ≡ put_pair l3 (i + 3) p3)
    (h : i + 3 < n) (long : 2 * n ≤ length l) where
  pub four_put : (k : ℕ) → k < 2 → lane k n l4 ≡ set (set (set (set (lane k n l) i (side k p0)) (i + 1) (side k p1)) (i + 2) (side k p2)) (i + 3) (side k p3)
  four_put k kh =
      let long2 : 2 * n ≤ length l2 = two_long n i l l1 l2 p0 p1 e0 e1 (omega arith) long in
      pair_put n (i + 3) l3 l4 p3 e3 h (put_long n (i + 2) l2 l3 p2 e2 (omega arith) long2) k kh
      ∙ ap (λ (t : List Float). set t (i + 3) (side k p3))
      (pair_put n (i + 2) l2 l3 p2 e2 (omega arith) long2 k kh
      ∙ ap (λ (t : List Float). set t (i + 2) (side k p2)) (two_put n i l l1 l2 p0 p1 e0 e1 (omega arith) long k kh))

-- ---- taps of a list l, by the taps p that were read and the list after the stores

pub start_stored : (a x : Float) (l after : List Float) (p : Float) (made : List Float) (on : Carried) → p ≡ l ‼ 1 → after ≡ set (set l 0 (made ‼ 0)) 1 (made ‼ 1)
    → ◌≡◌ {A = Taps} (record { d = made; on = on }) (start a x (p ∷ p ∷ []))
    → ◌≡◌ {A = Taps} (record { d = after; on = on }) (start a x l)
start_stored a x l after p made on r stored e = rw stored (start_alone a x l made on (rw r at e))

module _ (a : Float) (c l after : List Float) (i : ℕ) (s : Carried) where
  pub group_stored : (p0 p1 p2 p3 : Float) (made : List Float) (on : Carried) → p0 ≡ l ‼ i → p1 ≡ l ‼ (i + 1) → p2 ≡ l ‼ (i + 2) → p3 ≡ l ‼ (i + 3)
      → after ≡ set (set (set (set l i (made ‼ 0)) (i + 1) (made ‼ 1)) (i + 2) (made ‼ 2)) (i + 3) (made ‼ 3)
      → ◌≡◌ {A = Taps} (record { d = made; on = on })
      (group a (c ‼ i ∷ c ‼ (i + 1) ∷ c ‼ (i + 2) ∷ c ‼ (i + 3) ∷ []) 0 (record { d = p0 ∷ p1 ∷ p2 ∷ p3 ∷ []; on = s }))
      → ◌≡◌ {A = Taps} (record { d = after; on = on }) (group a c i (record { d = l; on = s }))
  group_stored p0 p1 p2 p3 made on r0 r1 r2 r3 stored e = rw stored (group_alone a c l i s made on (rw (r0, r1, r2, r3) at e))

  pub tap_stored : (p : Float) (made : List Float) (on : Carried) → p ≡ l ‼ i → after ≡ set l i (made ‼ 0)
      → ◌≡◌ {A = Taps} (record { d = made; on = on }) (tap a (c ‼ i ∷ []) 0 (record { d = p ∷ []; on = s }))
      → ◌≡◌ {A = Taps} (record { d = after; on = on }) (tap a c i (record { d = l; on = s }))
  tap_stored p made on r stored e = rw stored (tap_alone a c l i s made on (rw r at e))
