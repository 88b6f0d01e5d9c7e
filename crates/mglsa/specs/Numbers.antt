-- The filter of the stages from 1 on at a computed point, with the Rust's numbers. Assumes nothing.
use Rattle.std.specs.Prelude.{ℕ, ◌≡◌, refl, false, true, List, [], ◌∷◌, ◌++◌, pos, negsuc, Float}
use Rattle.std.specs.Float.{fin, binary64}
use Rattle.std.specs.Float.Ieee.{of_bits, of_int, add, sub, mul, neg}
use Rattle.number.specs.F64.{½f, 1f}
use Rattle.mglsa.specs.Mglsa.{passed, warp_at, warps, warped, pushed, dff_of, stage_of, stages_from, turned, df_of}

-- 0, 1, 2, ..
abbrev whole : ℕ → Float
whole n = of_int binary64 (pos n)

-- coefficients [0, 1, 2, 3], taps [1, 2, 3, 4] and [4, 3, 2, 1]
abbrev coefficients : List Float
coefficients = whole 0 ∷ whole 1 ∷ whole 2 ∷ whole 3 ∷ []

abbrev first_row_lem : List Float
first_row_lem = whole 1 ∷ whole 2 ∷ whole 3 ∷ whole 4 ∷ []

abbrev second_row_lem : List Float
second_row_lem = whole 4 ∷ whole 3 ∷ whole 2 ∷ whole 1 ∷ []

-- each between its neighbours: 2 + (3 - 1) / 2, then 3 + (4 - 3) / 2
pub two_warped : (warped ½f coefficients first_row_lem).d ≡ fin false 1 (pos 0) ∷ fin false 3 (pos 0) ∷ fin false 7 (negsuc 0) ∷ fin false 1 (pos 2) ∷ []
unfolding warped warps warp_at of_bits of_int add sub mul neg
two_warped = refl

pub one_pushed : pushed ½f second_row_lem ≡ ½f ∷ whole 4 ∷ whole 3 ∷ whole 2 ∷ []
unfolding pushed
one_pushed = refl

-- x 1 with alpha 0.5: one stage gives -16.5 and [-11.875, 1, 3, 3.5]
pub one_stage : dff_of ½f coefficients (passed first_row_lem 1f)
    ≡ passed (fin true 95 (negsuc 2) ∷ fin false 1 (pos 0) ∷ fin false 3 (pos 0) ∷ fin false 7 (negsuc 0) ∷ []) (fin true 33 (negsuc 0))
unfolding dff_of warped warps warp_at pushed of_bits of_int add sub mul neg
one_stage = refl

-- and the other after it -29 and [-19.75, 4, 2, 1.5]
pub two_stages : df_of ½f 2 coefficients (first_row_lem ++ second_row_lem) 1f
    ≡ turned (passed
    (fin true 95 (negsuc 2) ∷ fin false 1 (pos 0) ∷ fin false 3 (pos 0) ∷ fin false 7 (negsuc 0)
    ∷ fin true 79 (negsuc 1) ∷ fin false 1 (pos 2) ∷ fin false 1 (pos 1) ∷ fin false 3 (negsuc 0)
    ∷ [])
    (fin true 29 (pos 0)))
unfolding df_of stages_from stage_of dff_of warped warps warp_at pushed of_bits of_int add sub mul neg
two_stages = refl
