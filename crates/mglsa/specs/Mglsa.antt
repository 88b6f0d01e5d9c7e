-- The filter of the stages from 1 on, mglsa.rs. Assumes nothing.
use Rattle.std.specs.Prelude.{List, [], ◌∷◌, ℕ, zero, suc, ◌+◌, ◌-◌, ◌*◌, length, set, replicate, Float}
use Rattle.number.specs.F64.{◌⊕◌, ◌⊖◌, ◌⊗◌, 0f, 1f, ◌‼◌}
use Rattle.number.specs.Lists.{row, put_row}
use Rattle.history.specs.Through.{Turned}
use Rattle.mglsa.specs.declared.MelGeneralizedLogSpectrumApproximation.{MelGeneralizedLogSpectrumApproximation}

-- taps, and a number that goes with them: a sum, or a sample
pub record Passed : Type 0 where
  pub d : List Float
  pub x : Float

abbrev pub passed : List Float → Float → Passed
passed d x = record { d = d; x = x }

-- ---- one stage, `dff`

-- tap i between its neighbours, the one before it already new; the sum with the tap times its coefficient
unfoldable pub warp_at : Float → List Float → ℕ → Passed → Passed
warp_at alpha c i w =
    let tap = w.d ‼ i ⊕ alpha ⊗ (w.d ‼ (i + 1) ⊖ w.d ‼ (i - 1)) in
    passed (set w.d i tap) (w.x ⊕ tap ⊗ c ‼ (i + 1))

-- n taps from index i on
unfoldable pub warps : Float → List Float → ℕ → ℕ → Passed → Passed
warps alpha c zero i w = w
warps alpha c (suc n) i w = warps alpha c n (i + 1) (warp_at alpha c i w)

-- all taps but the first and the last
unfoldable pub warped : Float → List Float → List Float → Passed
warped alpha c d = warps alpha c (length d - 2) 1 (passed d (d ‼ 0 ⊗ c ‼ 1))

-- first in front, and each tap one place on: the last is lost
unfoldable pub pushed : Float → List Float → List Float
pushed first [] = []
pushed first (d ∷ ds) = first ∷ pushed d ds

-- the sum is taken from the sample, and the sample goes in at the front
unfoldable pub dff_of : Float → List Float → Passed → Passed
dff_of alpha c s =
    let w = warped alpha c s.d in
    let out = s.x ⊖ w.x in
    passed (pushed (alpha ⊗ w.d ‼ 0 ⊕ (1f ⊖ alpha ⊗ alpha) ⊗ out) w.d) out

-- ---- all stages, `df`

-- stage i, on row i of the taps
unfoldable pub stage_of : Float → List Float → ℕ → Passed → Passed
stage_of alpha c i s =
    let n = length c in
    let from = i * n in
    let to = from + n in
    let f = dff_of alpha c (passed (row from to s.d) s.x) in
    passed (put_row from to f.d s.d) f.x

-- n stages from stage i on
unfoldable pub stages_from : Float → List Float → ℕ → ℕ → Passed → Passed
stages_from alpha c zero i s = s
stages_from alpha c (suc n) i s = stages_from alpha c n (i + 1) (stage_of alpha c i s)

-- the sample after all stages, and the taps after it
abbrev pub turned : Passed → Turned (List Float) Float
turned s = record { sample = s.x; state = s.d }

unfoldable pub df_of : Float → ℕ → List Float → List Float → Float → Turned (List Float) Float
df_of alpha stages c d x = turned (stages_from alpha c stages 0 (passed d x))

abbrev pub fresh_rows : MelGeneralizedLogSpectrumApproximation
fresh_rows = record { d = replicate 512 0f }
