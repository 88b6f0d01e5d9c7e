-- The filter of stage 0, mlsa.rs. Assumes nothing.
use Rattle.std.specs.Prelude.{cond, List, [], ◌∷◌, ℕ, zero, suc, ◌+◌, ◌-◌, ◌*◌, ◌%◌, eqb, length, set, replicate, Float}
use Rattle.std.specs.Float.{binary64}
use Rattle.std.specs.Float.Ieee.{of_bits}
use Rattle.number.specs.F64.{◌⊕◌, ◌⊖◌, ◌⊗◌, −◌, 0f, 1f, ◌‼◌}
use Rattle.number.specs.Lists.{row, put_row}
use Rattle.history.specs.Through.{Turned}
use Rattle.fir.specs.Fir.{fir_of}
use Rattle.mlsa.specs.declared.MelLogSpectrumApproximation.{MelLogSpectrumApproximation}
use Rattle.mlsa.specs.declared.Sums.{Sums}

-- the constants: 1, 0.4999391, 0.1107098, 0.01369984, 0.0009564853, 0.00003041721
abbrev pub ppade : List Float
ppade =
    of_bits binary64 0x3ff0_0000_0000_0000
    ∷ of_bits binary64 0x3fdf_ff00_911f_7795
    ∷ of_bits binary64 0x3fbc_577a_3a58_c162
    ∷ of_bits binary64 0x3f8c_0ea9_6615_5db5
    ∷ of_bits binary64 0x3f4f_5794_8a92_cadb
    ∷ of_bits binary64 0x3eff_e50e_c145_a66f
    ∷ []

-- the answer y of row i, weighed by its constant: an odd row adds to the sample, an even one takes away, and all add to out
unfoldable pub weighed : ℕ → Float → Sums → Sums
weighed i y s =
    let v = y ⊗ ppade ‼ i in
    record { x = s.x ⊕ cond (eqb (i % 2) 1) v (− v); out = s.out ⊕ v }

-- ---- one part of the filter

-- its taps (d11, d21), the answers of its rows (d12, d22), and the sums
pub record Part : Type 0 where
  pub d1 : List Float
  pub d2 : List Float
  pub sums : Sums

abbrev pub part : List Float → List Float → Sums → Part
part d1 d2 sums = record { d1 = d1; d2 = d2; sums = sums }

-- row i of the first part: one tap
unfoldable pub first_row : Float → List Float → ℕ → Part → Part
first_row alpha c i p =
    let tap = (1f ⊖ alpha ⊗ alpha) ⊗ p.d2 ‼ (i - 1) ⊕ alpha ⊗ p.d1 ‼ i in
    let y = tap ⊗ c ‼ 1 in
    part (set p.d1 i tap) (set p.d2 i y) (weighed i y p.sums)

-- row i of the second part: the filter `fir` on row i - 1 of the taps
unfoldable pub second_row : Float → List Float → ℕ → Part → Part
second_row alpha c i p =
    let n = length c in
    let from = (i - 1) * n in
    let to = from + n in
    let f = fir_of alpha (p.d2 ‼ (i - 1)) c (row from to p.d1) in
    part (put_row from to f.d p.d1) (set p.d2 i f.y) (weighed i f.y p.sums)

-- the rows i to 1, downward
unfoldable pub downward : (ℕ → Part → Part) → ℕ → Part → Part
downward one zero p = p
downward one (suc i) p = downward one i (one (suc i) p)

-- what a part leaves, and the sample that it passes on
pub record Passed : Type 0 where
  pub d1 : List Float
  pub d2 : List Float
  pub x : Float

abbrev pub passed : List Float → List Float → Float → Passed
passed d1 d2 x = record { d1 = d1; d2 = d2; x = x }

-- the sample goes to answer 0, and out with the sum added
abbrev pub ended : Part → Passed
ended p = passed p.d1 (set p.d2 0 p.sums.x) (p.sums.x ⊕ p.sums.out)

-- the rows 5 to 1
abbrev pub passing : (ℕ → Part → Part) → List Float → List Float → Float → Passed
passing one d1 d2 x = ended (downward one 5 (part d1 d2 (record { x = x; out = 0f })))

unfoldable pub df1_of : Float → List Float → List Float → List Float → Float → Passed
df1_of alpha c d11 d12 x = passing (first_row alpha c) d11 d12 x

unfoldable pub df2_of : Float → List Float → List Float → List Float → Float → Passed
df2_of alpha c d21 d22 x = passing (second_row alpha c) d21 d22 x

-- ---- both parts

abbrev pub filter : List Float → List Float → List Float → List Float → MelLogSpectrumApproximation
filter d11 d12 d21 d22 = record { d11 = d11; d12 = d12; d21 = d21; d22 = d22 }

abbrev pub fresh_filter : MelLogSpectrumApproximation
fresh_filter = filter (replicate 6 0f) (replicate 6 0f) (replicate 384 0f) (replicate 6 0f)

-- the sample after the filter, and the filter after the sample
unfoldable pub df_of : Float → List Float → MelLogSpectrumApproximation → Float → Turned MelLogSpectrumApproximation Float
df_of alpha c f x =
    let first = df1_of alpha c f.d11 f.d12 x in
    let second = df2_of alpha c f.d21 f.d22 first.x in
    record { sample = second.x; state = filter first.d1 first.d2 second.d1 second.d2 }
