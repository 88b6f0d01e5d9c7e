-- The filter of stage 0 at computed points, each with the Rust's numbers. Assumes nothing.
use Rattle.std.specs.Prelude.{ℕ, ◌≡◌, refl, false, true, List, [], ◌∷◌, ◌++◌, pos, negsuc, Float}
use Rattle.std.specs.Float.{fin, binary64}
use Rattle.std.specs.Float.Ieee.{of_bits, of_int, add, sub, mul, neg}
use Rattle.number.specs.F64.{0f, ½f, 1f, 2f}
use Rattle.fir.specs.Fir.{fir_of}
use Rattle.mlsa.specs.Mlsa.{weighed, downward, first_row, second_row, passed, df1_of, df2_of}

-- 0, 1, 2, ..
abbrev whole : ℕ → Float
whole n = of_int binary64 (pos n)

-- an even row takes from the sample, and adds to the sum; constant 0 is 1
pub even_row : weighed 0 2f (record { x = 0f; out = 1f }) ≡ record { x = fin true 1 (pos 1); out = fin false 3 (pos 0) }
unfolding weighed of_bits add mul neg
even_row = refl

-- ---- the first part: alpha 0.5, d11 [0, 1, 2, 3, 4, 5], d12 [6, 5, 4, 3, 2, 1], x 1, coefficients [0, 2, 3]
abbrev rising : List Float
rising = whole 0 ∷ whole 1 ∷ whole 2 ∷ whole 3 ∷ whole 4 ∷ whole 5 ∷ []

abbrev falling : List Float
falling = whole 6 ∷ whole 5 ∷ whole 4 ∷ whole 3 ∷ whole 2 ∷ whole 1 ∷ []

-- x 11.24586579536, d11 [0, 5, 4.75, 4.5, 4.25, 4], d12 [5.063059672630001, 10, 9.5, 9, 8.5, 8]
pub first_part : df1_of ½f (0f ∷ 2f ∷ whole 3 ∷ []) rising falling 1f
    ≡ passed
    (fin false 0 (pos 0) ∷ fin false 5 (pos 0) ∷ fin false 19 (negsuc 1) ∷ fin false 9 (negsuc 0) ∷ fin false 17 (negsuc 1) ∷ fin false 1 (pos 2) ∷ [])
    (fin false 1425124603438191 (negsuc 47) ∷ fin false 5 (pos 1) ∷ fin false 19 (negsuc 0) ∷ fin false 9 (pos 0) ∷ fin false 17 (negsuc 0) ∷ fin false 1 (pos 3) ∷ [])
    (fin false 3165429812840119 (negsuc 47))
unfolding df1_of downward first_row weighed of_bits of_int add sub mul neg
first_part = refl

-- ---- the second part: alpha 0.5, d22 [6, 5, 4, 3, 2, 1], rows [i, 1, 2] of d21, x 1, coefficients [0, 2, 4]
abbrev row_of : ℕ → List Float
row_of i = whole i ∷ whole 1 ∷ whole 2 ∷ []

abbrev six_rows : List Float
six_rows = row_of 0 ++ (row_of 1 ++ (row_of 2 ++ (row_of 3 ++ (row_of 4 ++ row_of 5))))

-- x -0.97211338232, d22 [0.06690699559000002, -2, -0.5, 1, 2.5, 4]; the sixth row stays as it was
pub second_part : df2_of ½f (0f ∷ 2f ∷ whole 4 ∷ []) six_rows falling 1f
    ≡ passed
    (fin false 3 (pos 0) ∷ fin false 5 (pos 0) ∷ fin true 1 (negsuc 0)
    ∷ fin false 5 (negsuc 0) ∷ fin false 17 (negsuc 1) ∷ fin true 1 (negsuc 2)
    ∷ fin false 1 (pos 1) ∷ fin false 7 (negsuc 0) ∷ fin false 1 (negsuc 1)
    ∷ fin false 3 (negsuc 0) ∷ fin false 11 (negsuc 1) ∷ fin false 5 (negsuc 2)
    ∷ fin false 1 (pos 0) ∷ fin false 1 (pos 1) ∷ fin false 1 (pos 0)
    ∷ fin false 5 (pos 0) ∷ fin false 1 (pos 0) ∷ fin false 1 (pos 1)
    ∷ [])
    (fin false 602644640815207 (negsuc 52) ∷ fin true 1 (pos 1) ∷ fin true 1 (negsuc 0) ∷ fin false 1 (pos 0) ∷ fin false 5 (negsuc 0) ∷ fin false 1 (pos 2) ∷ [])
    (fin true 8756018932756449 (negsuc 52))
unfolding df2_of downward second_row weighed fir_of of_bits of_int add sub mul neg
second_part = refl
