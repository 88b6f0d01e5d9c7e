-- A sample through the filter of stage 0 changes no more than six rows of its taps. Assumes nothing.
use mathlib.Core.Path.{◌≡◌, refl, ◌∙◌}
use mathlib.Core.List.{List}
use Prim.Native.Nat.{ℕ, ◌+◌, ◌-◌, ◌*◌, ◌≤◌}
use native.Mathlib.Nat.{mul-le-mul, le_refl}
use native.Mathlib.Omega.{arith}
use lib.ListN.{length, length-set}
use lib.Ieee.{Float}
use Rattle.number.specs.F64.{◌‼◌, 0f}
use Rattle.number.specs.Lists.{row}
use Rattle.number.proofs.Lists.{length_row}
use Rattle.fir.specs.Fir.{fir_of}
use Rattle.mlsa.specs.declared.MelLogSpectrumApproximation.{MelLogSpectrumApproximation}
use Rattle.mlsa.specs.Mlsa.{Part, part, first_row, second_row, downward, passing, df1_of, df2_of, df_of}
use Rattle.held.proofs.FiltersKeep.{fir_keeps, rows_keep}
use Rattle.stream.proofs.PastLaws.{Past, past_same, past_then, past_set, past_put}

length_fir : (a : Float) (c : List Float) (x : Float) (d : List Float) → length (fir_of a x c d).d ≡ length d
length_fir a c x d = fir_keeps (λ (l : List Float). length l ≡ length d) (λ l i y _ h. length-set l i y ∙ h) a c x d refl

-- ---- the rows

record Same (n : ℕ) (p q : Part) : Type 0 where
  pub d1 : Past n p.d1 q.d1
  pub d2 : length q.d2 ≡ length p.d2

-- rows 5 to 1 of a part whose taps are n or more, and the sample to answer 0
module _ (n : ℕ) (one : ℕ → Part → Part) (each : (i : ℕ) (p : Part) → i ≤ 5 → n ≤ length p.d1 → Same n p (one i p)) where
  then_same : (p q : Part) (i : ℕ) → i ≤ 5 → n ≤ length p.d1 → Same n p q → Same n p (one i q)
  then_same p q i h l s =
      let now = each i q h (omega (arith, l, s.d1.size)) in
      record { d1 = past_then n p.d1 q.d1 (one i q).d1 s.d1 now.d1; d2 = now.d2 ∙ s.d2 }

  passing_same : (d1 d2 : List Float) (x : Float) → n ≤ length d1 → Past n d1 (passing one d1 d2 x).d1 × (length (passing one d1 d2 x).d2 ≡ length d2)
  passing_same d1 d2 x l =
      let p = part d1 d2 (record { x = x; out = 0f }) in
      let s : Same n p (downward one 5 p) = rows_keep (Same n p) one (λ i q h s. then_same p q i h l s) d1 d2 x (record { d1 = past_same n d1; d2 = refl }) in
      (s.d1, length-set (downward one 5 p).d2 0 (downward one 5 p).sums.x ∙ s.d2)

module _ (alpha : Float) (c : List Float) where
  first_row_lem : (i : ℕ) (p : Part) → i ≤ 5 → 6 ≤ length p.d1 → Same 6 p (first_row alpha c i p)
  unfolding first_row
  first_row_lem i p h l = record { d1 = past_set 6 p.d1 i _ (omega arith); d2 = length-set p.d2 i _ }

  -- row i - 1 ends below the sixth
  second_row_lem : (i : ℕ) (p : Part) → i ≤ 5 → 6 * length c ≤ length p.d1 → Same (6 * length c) p (second_row alpha c i p)
  unfolding second_row
  second_row_lem i p h l =
      let n = length c in
      let from = (i - 1) * n in
      let to = from + n in
      let most : (i - 1) * n ≤ 5 * n = mul-le-mul (omega arith) (le_refl n) in
      let f = fir_of alpha (p.d2 ‼ (i - 1)) c (row from to p.d1) in
      let size : length f.d ≡ to - from = length_fir alpha c (p.d2 ‼ (i - 1)) (row from to p.d1) ∙ length_row from to p.d1 (omega arith) (omega (arith, most, l)) in
      record { d1 = past_put (6 * n) p.d1 from to f.d (omega arith) (omega (arith, most)) l size; d2 = length-set p.d2 i f.y }

-- the taps after a sample: n entries of d21 changed
pub record SameTaps (n : ℕ) (f g : MelLogSpectrumApproximation) : Type 0 where
  pub d11 : length g.d11 ≡ length f.d11
  pub d12 : length g.d12 ≡ length f.d12
  pub d21 : Past n f.d21 g.d21
  pub d22 : length g.d22 ≡ length f.d22

pub same_taps : (n : ℕ) (f : MelLogSpectrumApproximation) → SameTaps n f f
same_taps n f = record { d11 = refl; d12 = refl; d21 = past_same n f.d21; d22 = refl }

pub zero_past : (alpha : Float) (c : List Float) (f : MelLogSpectrumApproximation) (x : Float) → 6 ≤ length f.d11 → 6 * length c ≤ length f.d21
    → SameTaps (6 * length c) f (df_of alpha c f x).state
unfolding df_of df1_of df2_of
zero_past alpha c f x h k =
    let a = passing_same 6 (first_row alpha c) (first_row_lem alpha c) f.d11 f.d12 x h in
    let b = passing_same (6 * length c) (second_row alpha c) (second_row_lem alpha c) f.d21 f.d22 (passing (first_row alpha c) f.d11 f.d12 x).x k in
    record { d11 = a.0.size; d12 = a.1; d21 = b.0; d22 = b.1 }
