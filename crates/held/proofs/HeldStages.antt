-- A sample through the filter of the stages from 1 on: its taps stay f64s. Assumes nothing.
use mathlib.Core.List.{List, [], ◌∷◌}
use Prim.Native.Nat.{ℕ, zero, suc, ◌+◌, ◌-◌, ◌*◌}
use native.Mathlib.Omega.{arith}
use lib.ListN.{length}
use lib.Ieee.{Float, binary64}
use lib.Ieee.Fits.{add-fits}
use Rattle.number.specs.F64.{◌⊕◌, ◌⊖◌, ◌⊗◌, ◌‼◌, 1f}
use Rattle.number.specs.Lists.{row}
use Rattle.mglsa.specs.Mglsa.{Passed, passed, warp_at, warps, warped, pushed, dff_of, stage_of, df_of}
use Rattle.held.specs.Held.{Holds, AllHeld}
use Rattle.held.proofs.FiltersKeep.{stages_keep}
use Rattle.held.proofs.HeldLists.{held_set, held_row, held_put}

pushed_held : (first : Float) (d : List Float) → Holds first → AllHeld d → AllHeld (pushed first d)
unfolding pushed
pushed_held first [] k h = tt
pushed_held first (x ∷ d) k h = (k, pushed_held x d h.0 h.1)

module _ (alpha : Float) (c : List Float) where
  warp_held : (i : ℕ) (w : Passed) → AllHeld w.d → AllHeld (warp_at alpha c i w).d
  unfolding warp_at
  warp_held i w h =
      let step = alpha ⊗ (w.d ‼ (i + 1) ⊖ w.d ‼ (i - 1)) in
      held_set w.d i (w.d ‼ i ⊕ step) (add-fits binary64 (w.d ‼ i) step) h

  warps_held : (n i : ℕ) (w : Passed) → AllHeld w.d → AllHeld (warps alpha c n i w).d
  unfolding warps
  warps_held zero i w h = h
  warps_held (suc n) i w h = warps_held n (i + 1) (warp_at alpha c i w) (warp_held i w h)

  warped_held : (d : List Float) → AllHeld d → AllHeld (warped alpha c d).d
  unfolding warped
  warped_held d h = warps_held (length d - 2) 1 (passed d (d ‼ 0 ⊗ c ‼ 1)) h

  one_stage : (s : Passed) → AllHeld s.d → AllHeld (dff_of alpha c s).d
  unfolding dff_of
  one_stage s h =
      let w = warped alpha c s.d in
      let into = (1f ⊖ alpha ⊗ alpha) ⊗ (s.x ⊖ w.x) in
      pushed_held (alpha ⊗ w.d ‼ 0 ⊕ into) w.d (add-fits binary64 (alpha ⊗ w.d ‼ 0) into) (warped_held s.d h)

  stage_held : (i : ℕ) (s : Passed) → AllHeld s.d → AllHeld (stage_of alpha c i s).d
  unfolding stage_of
  stage_held i s h =
      let from = i * length c in
      let to = from + length c in
      let p = passed (row from to s.d) s.x in
      held_put from to (dff_of alpha c p).d s.d (one_stage p (held_row from to s.d h)) h

  pub stages_held : (stages : ℕ) (d : List Float) (x : Float) → AllHeld d → AllHeld (df_of alpha stages c d x).state
  unfolding df_of
  stages_held stages d x h = stages_keep alpha c stages AllHeld (λ i s _. stage_held i s) stages 0 (passed d x) (omega arith) h
