-- What every store of a filter keeps, a sample through it keeps: the number of the taps, that they are f64s, what is past them. Assumes nothing.
use mathlib.Core.List.{List}
use Prim.Native.Nat.{ℕ, zero, suc, ◌+◌, ◌-◌, ◌*◌, ◌/◌, ◌%◌, ◌≤◌}
use native.Mathlib.Nat.{le_refl}
use native.Mathlib.Omega.{arith}
use lib.ListN.{length, set}
use lib.Ieee.{Float, binary64}
use lib.Ieee.Fits.{add-fits, mul-fits}
use Rattle.number.specs.F64.{◌⊕◌, ◌⊖◌, ◌⊗◌, −◌, ◌‼◌, 0f, 1f}
use Rattle.fir.specs.Fir.{Taps, start, group, tap, groups, singles, taps, fir_of}
use Rattle.mlsa.specs.Mlsa.{Part, part, downward}
use Rattle.mglsa.specs.Mglsa.{Passed, stage_of, stages_from}
use Rattle.held.specs.Held.{Holds}

-- ---- `fir` stores products and sums, which are f64s

module _ (K : List Float → Type 0) (store : (l : List Float) (i : ℕ) (x : Float) → Holds x → K l → K (set l i x)) (a : Float) (c : List Float) where
  sum_stored : (l : List Float) (i : ℕ) (x y : Float) → K l → K (set l i (x ⊕ y))
  sum_stored l i x y h = store l i (x ⊕ y) (add-fits binary64 x y) h

  start_keeps : (x : Float) (d : List Float) → K d → K (start a x d).d
  start_keeps x d h = sum_stored (set d 0 (a ⊗ x)) 1 ((1f ⊖ a ⊗ a) ⊗ x) (a ⊗ d ‼ 1) (store d 0 (a ⊗ x) (mul-fits binary64 a x) h)

  group_keeps : (i : ℕ) (t : Taps) → K t.d → K (group a c i t).d
  group_keeps i t h =
      let aa = a ⊗ a in
      let rem = t.on.rem in
      let d0 = t.d ‼ i in
      let d1 = t.d ‼ (i + 1) in
      let d2 = t.d ‼ (i + 2) in
      let d3 = t.d ‼ (i + 3) in
      let m0 = (1f ⊖ aa) ⊗ rem in
      let m1 = (1f ⊖ aa) ⊗ (− a ⊗ rem ⊕ d0) in
      let m2 = (1f ⊖ aa) ⊗ (aa ⊗ rem ⊕ (− a ⊗ d0 ⊕ d1)) in
      let m3 = (1f ⊖ aa) ⊗ (aa ⊗ (− a ⊗ rem ⊕ d0) ⊕ (− a ⊗ d1 ⊕ d2)) in
      let e0 = sum_stored t.d i m0 (a ⊗ d0) h in
      let e1 = sum_stored (set t.d i (m0 ⊕ a ⊗ d0)) (i + 1) m1 (a ⊗ d1) e0 in
      let e2 = sum_stored (set (set t.d i (m0 ⊕ a ⊗ d0)) (i + 1) (m1 ⊕ a ⊗ d1)) (i + 2) m2 (a ⊗ d2) e1 in
      sum_stored (set (set (set t.d i (m0 ⊕ a ⊗ d0)) (i + 1) (m1 ⊕ a ⊗ d1)) (i + 2) (m2 ⊕ a ⊗ d2)) (i + 3) m3 (a ⊗ d3) e2

  tap_keeps : (i : ℕ) (t : Taps) → K t.d → K (tap a c i t).d
  tap_keeps i t h = sum_stored t.d i ((1f ⊖ a ⊗ a) ⊗ t.on.rem) (a ⊗ t.d ‼ i) h

  groups_keep : (n i : ℕ) (t : Taps) → K t.d → K (groups a c n i t).d
  unfolding groups
  groups_keep zero i t h = h
  groups_keep (suc n) i t h = groups_keep n (i + 4) (group a c i t) (group_keeps i t h)

  singles_keep : (n i : ℕ) (t : Taps) → K t.d → K (singles a c n i t).d
  unfolding singles
  singles_keep zero i t h = h
  singles_keep (suc n) i t h = singles_keep n (i + 1) (tap a c i t) (tap_keeps i t h)

  taps_keep : (n i : ℕ) (t : Taps) → K t.d → K (taps a c n i t).d
  unfolding taps
  taps_keep n i t h = singles_keep (n % 4) (i + n / 4 * 4) (groups a c (n / 4) i t) (groups_keep (n / 4) i t h)

  pub fir_keeps : (x : Float) (d : List Float) → K d → K (fir_of a x c d).d
  unfolding fir_of
  fir_keeps x d h = taps_keep (length d - 2) 2 (start a x d) (start_keeps x d h)

-- ---- the rows 5 to 1 of a part

module _ (K : Part → Type 0) (one : ℕ → Part → Part) (each : (i : ℕ) (p : Part) → i ≤ 5 → K p → K (one i p)) where
  downward_keeps : (i : ℕ) (p : Part) → i ≤ 5 → K p → K (downward one i p)
  unfolding downward
  downward_keeps zero p h k = k
  downward_keeps (suc i) p h k = downward_keeps i (one (suc i) p) (omega arith) (each (suc i) p h k)

  pub rows_keep : (d1 d2 : List Float) (x : Float) → K (part d1 d2 (record { x = x; out = 0f })) → K (downward one 5 (part d1 d2 (record { x = x; out = 0f })))
  rows_keep d1 d2 x k = downward_keeps 5 (part d1 d2 (record { x = x; out = 0f })) (le_refl 5) k

-- ---- the stages from 1 on

module _ (alpha : Float) (c : List Float) (stages : ℕ) (K : List Float → Type 0) (each : (i : ℕ) (s : Passed) → i + 1 ≤ stages → K s.d → K (stage_of alpha c i s).d) where
  pub stages_keep : (n i : ℕ) (s : Passed) → i + n ≤ stages → K s.d → K (stages_from alpha c n i s).d
  unfolding stages_from
  stages_keep zero i s h k = k
  stages_keep (suc n) i s h k = stages_keep n (i + 1) (stage_of alpha c i s) (omega arith) (each i s (omega arith) k)
