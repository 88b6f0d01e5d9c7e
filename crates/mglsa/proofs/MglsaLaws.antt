-- The taps and the stages that are left, a turn on. Assumes nothing.
use mathlib.Core.Path.{◌≡◌, refl, ap, ◌∙◌}
use mathlib.Core.List.{List, [], ◌∷◌}
use Prim.Native.Nat.{ℕ, zero, suc, ◌+◌, ◌-◌, ◌*◌, ◌/◌, ◌≤◌, ◌<◌}
use native.Mathlib.Nat.{mul-le-mul_right, suc-mul}
use native.Mathlib.Omega.{arith}
use lib.Ieee.{Float}
use Rattle.number.specs.F64.{◌⊕◌, ◌⊖◌, ◌⊗◌, 1f, ◌‼◌}
use Rattle.number.specs.Lists.{row, put_row}
use lib.ListN.{length, length-set}
use Rattle.mglsa.specs.Mglsa.{Passed, passed, warp_at, warps, warped, pushed, dff_of, stage_of, stages_from}

module _ (alpha : Float) (c : List Float) (n i : ℕ) (s : Passed) where
  pub warp_turn : i < n → warps alpha c (n - (i + 1)) (i + 1) (warp_at alpha c i s) ≡ warps alpha c (n - i) i s
  unfolding warps
  warp_turn h =
      let left : n - i ≡ suc (n - (i + 1)) = omega arith in
      rw left refl

  pub warp_end : n ≤ i → warps alpha c (n - i) i s ≡ s
  unfolding warps
  warp_end h =
      let none : n - i ≡ 0 = omega arith in
      rw none refl

  pub stage_turn : i < n → stages_from alpha c (n - (i + 1)) (i + 1) (stage_of alpha c i s) ≡ stages_from alpha c (n - i) i s
  unfolding stages_from
  stage_turn h =
      let left : n - i ≡ suc (n - (i + 1)) = omega arith in
      rw left refl

  pub stage_end : n ≤ i → stages_from alpha c (n - i) i s ≡ s
  unfolding stages_from
  stage_end h =
      let none : n - i ≡ 0 = omega arith in
      rw none refl

-- two at once
pub stages_turn : (alpha : Float) (c : List Float) (n i : ℕ) (s : Passed) → i < n / 2
    → stages_from alpha c (n - 2 * (i + 1)) (2 * (i + 1)) (stage_of alpha c (2 * i + 1) (stage_of alpha c (2 * i) s)) ≡ stages_from alpha c (n - 2 * i) (2 * i) s
unfolding stages_from
stages_turn alpha c n i s h =
    let left : n - 2 * i ≡ suc (suc (n - 2 * (i + 1))) = omega arith in
    let on : 2 * (i + 1) ≡ 2 * i + 1 + 1 = omega arith in
    rw (left, on) refl

-- a row of n that is not past the last of `rows`
pub row_within : (i n rows l : ℕ) → i < rows → rows * n ≤ l → i * n + n ≤ l
row_within i n rows l h fits =
    let to : suc i * n ≤ rows * n = mul-le-mul_right n (omega arith) in
    let more : suc i * n ≡ i * n + n = suc-mul i n in
    omega arith

-- and two of them
pub rows_within : (i n rows l : ℕ) → i + 1 < rows → rows * n ≤ l → i * n + n + n ≤ l
rows_within i n rows l h fits =
    let to : suc (suc i) * n ≤ rows * n = mul-le-mul_right n (omega arith) in
    let more : suc (suc i) * n ≡ suc i * n + n = suc-mul (suc i) n in
    let most : suc i * n ≡ i * n + n = suc-mul i n in
    omega arith

-- a stage by what its taps come to, and a row by what its stage comes to
pub dff_of_lem : (alpha : Float) (c d taps after : List Float) (x y : Float) → passed taps y ≡ warped alpha c d
    → after ≡ pushed (alpha ⊗ taps ‼ 0 ⊕ (1f ⊖ alpha ⊗ alpha) ⊗ (x ⊖ y)) taps → passed after (x ⊖ y) ≡ dff_of alpha c (passed d x)
unfolding dff_of
dff_of_lem alpha c d taps after x y w p = rw (p, ← w) refl

pub stage_of_lem : (alpha : Float) (c d taps : List Float) (i : ℕ) (x y : Float)
    → passed taps y ≡ dff_of alpha c (passed (row (i * length c) (i * length c + length c) d) x)
    → passed (put_row (i * length c) (i * length c + length c) taps d) y ≡ stage_of alpha c i (passed d x)
unfolding stage_of
stage_of_lem alpha c d taps i x y f = rw (← f) refl

-- ---- as many taps come out as went in

pub length_pushed : (first : Float) (d : List Float) → length (pushed first d) ≡ length d
unfolding pushed
length_pushed first [] = refl
length_pushed first (x ∷ d) = ap suc (length_pushed x d)

module _ (alpha : Float) (c : List Float) where
  length_warps : (n i : ℕ) (w : Passed) → length (warps alpha c n i w).d ≡ length w.d
  unfolding warps warp_at
  length_warps zero i w = refl
  length_warps (suc n) i w = length_warps n (i + 1) (warp_at alpha c i w) ∙ length-set w.d i _

  pub length_stage : (s : Passed) → length (dff_of alpha c s).d ≡ length s.d
  unfolding dff_of warped
  length_stage s = length_pushed _ (warped alpha c s.d).d ∙ length_warps (length s.d - 2) 1 (passed s.d (s.d ‼ 0 ⊗ c ‼ 1))
