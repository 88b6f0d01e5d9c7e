-- Taps by what they come to by themselves; the taps that are left, a turn on: by a group of four, and by one tap; and all of them. Assumes nothing.
use mathlib.Core.Path.{◌≡◌, refl, ap}
use mathlib.Core.List.{List, [], ◌∷◌}
use Prim.Native.Nat.{ℕ, suc, ◌+◌, ◌-◌, ◌*◌, ◌/◌, ◌%◌, ◌≤◌, ◌<◌}
use native.Mathlib.Omega.{arith}
use lib.Ieee.{Float}
use lib.ListN.{length, set}
use Rattle.number.specs.F64.{◌‼◌}
use Rattle.fir.specs.declared.Carried.{Carried}
use Rattle.fir.specs.Fir.{Taps, start, group, tap, groups, singles, taps}

-- ---- taps of a list, by what they come to where they stand by themselves

pub start_alone : (a x : Float) (l made : List Float) (on : Carried) → ◌≡◌ {A = Taps} (record { d = made; on = on }) (start a x (l ‼ 1 ∷ l ‼ 1 ∷ []))
    → ◌≡◌ {A = Taps} (record { d = set (set l 0 (made ‼ 0)) 1 (made ‼ 1); on = on }) (start a x l)
start_alone a x l made on e = ap two e
  where
    two : Taps → Taps
    two t = record { d = set (set l 0 (t.d ‼ 0)) 1 (t.d ‼ 1); on = t.on }

module _ (a : Float) (c l : List Float) (i : ℕ) (s : Carried) (made : List Float) (on : Carried) where
  pub group_alone : ◌≡◌ {A = Taps} (record { d = made; on = on })
      (group a (c ‼ i ∷ c ‼ (i + 1) ∷ c ‼ (i + 2) ∷ c ‼ (i + 3) ∷ []) 0 (record { d = l ‼ i ∷ l ‼ (i + 1) ∷ l ‼ (i + 2) ∷ l ‼ (i + 3) ∷ []; on = s }))
      → ◌≡◌ {A = Taps} (record { d = set (set (set (set l i (made ‼ 0)) (i + 1) (made ‼ 1)) (i + 2) (made ‼ 2)) (i + 3) (made ‼ 3); on = on }) (group a c i (record { d = l; on = s }))
  group_alone e = ap four e
    where
      four : Taps → Taps
      four t = record { d = set (set (set (set l i (t.d ‼ 0)) (i + 1) (t.d ‼ 1)) (i + 2) (t.d ‼ 2)) (i + 3) (t.d ‼ 3); on = t.on }

  pub tap_alone : ◌≡◌ {A = Taps} (record { d = made; on = on }) (tap a (c ‼ i ∷ []) 0 (record { d = l ‼ i ∷ []; on = s }))
      → ◌≡◌ {A = Taps} (record { d = set l i (made ‼ 0); on = on }) (tap a c i (record { d = l; on = s }))
  tap_alone e = ap one e
    where
      one : Taps → Taps
      one t = record { d = set l i (t.d ‼ 0); on = t.on }

-- ---- a turn of the loops

module _ (a : Float) (c : List Float) (m g : ℕ) (t : Taps) where
  -- group g of m, which begin at index 2
  pub group_turn : g < m → groups a c (m - (g + 1)) (2 + 4 * (g + 1)) (group a c (2 + 4 * g) t) ≡ groups a c (m - g) (2 + 4 * g) t
  unfolding groups
  group_turn h =
      let left : m - g ≡ suc (m - (g + 1)) = omega arith in
      let on : 2 + 4 * (g + 1) ≡ 2 + 4 * g + 4 = omega arith in
      rw (left, on) refl

  pub groups_end : m ≤ g → groups a c (m - g) (2 + 4 * g) t ≡ t
  unfolding groups
  groups_end h =
      let none : m - g ≡ 0 = omega arith in
      rw none refl

module _ (a : Float) (c : List Float) (n i : ℕ) (t : Taps) where
  pub tap_turn : i < n → singles a c (n - (i + 1)) (i + 1) (tap a c i t) ≡ singles a c (n - i) i t
  unfolding singles
  tap_turn h =
      let left : n - i ≡ suc (n - (i + 1)) = omega arith in
      rw left refl

  pub singles_end : n ≤ i → singles a c (n - i) i t ≡ t
  unfolding singles
  singles_end h =
      let none : n - i ≡ 0 = omega arith in
      rw none refl

-- ---- all of them, n in number, by what the first two, the groups and the single taps come to

module _ (a x : Float) (c d : List Float) (n : ℕ) (first grouped made : Taps) where
  pub taps_by : length d ≡ n → 2 ≤ n → first ≡ start a x d → grouped ≡ groups a c ((n - 2) / 4) 2 first
      → made ≡ singles a c (n - (2 + (n - 2) / 4 * 4)) (2 + (n - 2) / 4 * 4) grouped → made ≡ taps a c (length d - 2) 2 (start a x d)
  unfolding taps
  taps_by k two e g m =
      let left : n - (2 + (n - 2) / 4 * 4) ≡ (n - 2) % 4 = omega arith in
      rw (m, left, g, k, e) refl
