-- Samples at computed points, each with the Rust's numbers. Assumes nothing.
use Rattle.std.specs.Prelude.{ℕ, zero, suc, ◌≡◌, refl, false, true, List, [], ◌∷◌, ◌++◌, pos, negsuc, Float}
use Rattle.std.proofs.Common.{arith, sym}
use Rattle.std.specs.Float.{fin, binary64}
use Rattle.std.specs.Float.Ieee.{of_bits, of_int, ne, eq, add, sub, mul, neg}
use Rattle.number.specs.F64.{−◌, 0f, ½f, 2f}
use Rattle.elementary.specs.Horner.{horner}
use Rattle.exponential.specs.Exp.{coefficients}
use Rattle.exponential.specs.Points.{at_zero}
use Rattle.vectors.specs.Vectors.{plus}
use Rattle.history.specs.Through.{passage, through}
use Rattle.fir.specs.Fir.{fir_of}
use Rattle.mlsa.specs.Mlsa as mlsa
use Rattle.mglsa.specs.Mglsa as mglsa
use Rattle.filter.specs.Sample.{state, sample_by}
use Rattle.filter.specs.Zero as zero
use Rattle.filter.specs.NonZero as nonzero

-- 0, 1, 2, ..
abbrev whole : ℕ → Float
whole n = of_int binary64 (pos n)

abbrev quarter : Float
quarter = fin false 1 (negsuc 1)

-- ---- stage 0: alpha 0.5, volume 2, coefficients [1000, 2, 4], increments [1, 0.5, 0.25]

abbrev rising : List Float
rising = whole 0 ∷ whole 1 ∷ whole 2 ∷ whole 3 ∷ whole 4 ∷ whole 5 ∷ []

abbrev falling : List Float
falling = whole 6 ∷ whole 5 ∷ whole 4 ∷ whole 3 ∷ whole 2 ∷ whole 1 ∷ []

abbrev row_of : ℕ → List Float
row_of i = whole i ∷ whole 1 ∷ whole 2 ∷ []

abbrev six_rows : List Float
six_rows = row_of 0 ++ (row_of 1 ++ (row_of 2 ++ (row_of 3 ++ (row_of 4 ++ row_of 5))))

abbrev loud : List Float
loud = whole 1000 ∷ whole 2 ∷ whole 4 ∷ []

-- exp(1000) is infinite, and would make a NaN of either zero
pub zero_not_gained : zero.gained loud 0f ≡ 0f
unfolding zero.gained ne eq of_bits of_int
zero_not_gained = refl

pub minus_zero_not_gained : zero.gained loud (− 0f) ≡ − 0f
unfolding zero.gained ne eq neg of_bits of_int
minus_zero_not_gained = refl

-- c[0] goes on past each of them
pub gains_of_zeros : through (zero.gain_of 2f) (whole 1000) (0f ∷ − 0f ∷ []) ≡ passage (0f ∷ − 0f ∷ []) (whole 1004)
unfolding through zero.gained ne eq neg add of_bits of_int
gains_of_zeros = refl

-- which is where it is after two samples
pub on_by_two : zero.on_by 2f (whole 1000) 2 ≡ whole 1004
unfolding zero.on_by add of_bits of_int
on_by_two = refl

-- exp(0), which is 1, by the rest 0 and the power 1
pub one_prepared : zero.Prepared 2f 0f 1 (0f ∷ []) (whole 1 ∷ [])
unfolding zero.on_by horner coefficients of_bits of_int add mul
one_prepared zero h = sym at_zero
one_prepared (suc i) h = absurd (omega arith)

-- the samples 0 and -0, from such a filter on: 16.54750482608 and 29.77021682852346
abbrev zero_stretch : List Float
zero_stretch = (through (zero.sample_of ½f 2f (whole 1 ∷ ½f ∷ quarter ∷ [])) (state loud (mlsa.filter rising falling six_rows falling)) (0f ∷ − 0f ∷ [])).made

pub two_zeros : zero_stretch ≡ fin false 291106783471271 (negsuc 43) ∷ fin false 2094892772119955 (negsuc 45) ∷ []
unfolding through sample_by zero.gained mlsa.df_of mlsa.df1_of mlsa.df2_of mlsa.downward mlsa.first_row mlsa.second_row mlsa.weighed fir_of plus ne eq of_bits of_int add sub mul neg
two_zeros = refl

-- both had their gain: the rest by itself makes the same of them
pub two_zeros_filtered : (through (zero.filtered_of ½f 2f (whole 1 ∷ ½f ∷ quarter ∷ [])) (state loud (mlsa.filter rising falling six_rows falling)) (0f ∷ − 0f ∷ [])).made ≡ zero_stretch
unfolding through sample_by zero.gained mlsa.df_of mlsa.df1_of mlsa.df2_of mlsa.downward mlsa.first_row mlsa.second_row mlsa.weighed fir_of plus ne eq of_bits of_int add sub mul neg
two_zeros_filtered = refl

-- ---- stage 2: alpha 0.5, volume 2, coefficients [3, 1, 2, 3], increments [1, 0.5, 0.25, 2], taps [1, 2, 3, 4] and [4, 3, 2, 1]

abbrev quiet : List Float
quiet = whole 3 ∷ whole 1 ∷ whole 2 ∷ whole 3 ∷ []

abbrev two_rows : List Float
two_rows = whole 1 ∷ whole 2 ∷ whole 3 ∷ whole 4 ∷ whole 4 ∷ whole 3 ∷ whole 2 ∷ whole 1 ∷ []

-- the samples 1 and 2: -54 and 37.78125
pub one_and_two : through (nonzero.sample_of ½f 2 2f (whole 1 ∷ ½f ∷ quarter ∷ whole 2 ∷ [])) (state quiet two_rows) (whole 1 ∷ whole 2 ∷ [])
    ≡ passage
    (fin true 27 (pos 1) ∷ fin false 1209 (negsuc 4) ∷ [])
    (state
    (fin false 5 (pos 0) ∷ fin false 1 (pos 1) ∷ fin false 5 (negsuc 0) ∷ fin false 7 (pos 0) ∷ [])
    (fin true 995 (negsuc 7) ∷ fin true 83 (negsuc 2) ∷ fin false 123 (negsuc 3) ∷ fin false 29 (negsuc 4)
    ∷ fin false 1291 (negsuc 7) ∷ fin true 73 (negsuc 1) ∷ fin false 113 (negsuc 2) ∷ fin true 69 (negsuc 3)
    ∷ []))
unfolding through sample_by mglsa.df_of mglsa.stages_from mglsa.stage_of mglsa.dff_of mglsa.warped mglsa.warps mglsa.warp_at mglsa.pushed plus of_bits of_int add sub mul neg
one_and_two = refl
