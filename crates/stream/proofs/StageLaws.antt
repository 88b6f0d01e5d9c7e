-- A sample through the filter of the stages from 1 on changes no more than a row for each. Assumes nothing.
use mathlib.Core.Path.{◌≡◌, ◌∙◌}
use mathlib.Core.List.{List}
use Prim.Native.Nat.{ℕ, ◌+◌, ◌-◌, ◌*◌, ◌≤◌}
use native.Mathlib.Nat.{mul-le-mul, le_refl}
use native.Mathlib.Omega.{arith}
use lib.ListN.{length}
use lib.Ieee.{Float}
use Rattle.number.specs.Lists.{row}
use Rattle.number.proofs.Lists.{length_row}
use Rattle.mglsa.specs.Mglsa.{Passed, passed, dff_of, stage_of, df_of}
use Rattle.mglsa.proofs.MglsaLaws.{length_stage}
use Rattle.held.proofs.FiltersKeep.{stages_keep}
use Rattle.stream.proofs.PastLaws.{Past, past_same, past_then, past_put}

module _ (alpha : Float) (c : List Float) where
  module _ (stages : ℕ) where
    -- stage i turns row i
    one_stage : (i : ℕ) (s : Passed) → i + 1 ≤ stages → stages * length c ≤ length s.d → Past (stages * length c) s.d (stage_of alpha c i s).d
    unfolding stage_of
    one_stage i s h l =
        let n = length c in
        let from = i * n in
        let to = from + n in
        let most : (i + 1) * n ≤ stages * n = mul-le-mul h (le_refl n) in
        let p = passed (row from to s.d) s.x in
        let size : length (dff_of alpha c p).d ≡ to - from = length_stage alpha c p ∙ length_row from to s.d (omega arith) (omega (arith, most, l)) in
        past_put (stages * n) s.d from to (dff_of alpha c p).d (omega arith) (omega (arith, most)) l size

    then_stage : (d : List Float) (i : ℕ) (s : Passed) → stages * length c ≤ length d → i + 1 ≤ stages → Past (stages * length c) d s.d → Past (stages * length c) d (stage_of alpha c i s).d
    then_stage d i s l h p = past_then (stages * length c) d s.d (stage_of alpha c i s).d p (one_stage i s h (omega (arith, l, p.size)))

    pub stages_past : (d : List Float) (x : Float) → stages * length c ≤ length d → Past (stages * length c) d (df_of alpha stages c d x).state
    unfolding df_of
    stages_past d x l =
        let n = stages * length c in
        stages_keep alpha c stages (Past n d) (λ i s h p. then_stage d i s l h p) stages 0 (passed d x) (omega arith) (past_same n d)
