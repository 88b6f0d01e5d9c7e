-- A sample through the filter of stage 0: its taps stay f64s. Assumes nothing.
use mathlib.Core.Bool.{cond}
use mathlib.Core.List.{List}
use Prim.Native.Nat.{ℕ, ◌+◌, ◌-◌, ◌*◌, ◌%◌}
use lib.Dec.{eqb}
use lib.ListN.{length}
use lib.Ieee.{Float, binary64}
use lib.Ieee.Fits.{add-fits, mul-fits}
use Rattle.number.specs.F64.{◌⊕◌, ◌⊖◌, ◌⊗◌, −◌, ◌‼◌, 0f, 1f}
use Rattle.number.specs.Lists.{row}
use Rattle.fir.specs.Fir.{start, taps, fir_of}
use Rattle.mlsa.specs.declared.Sums.{Sums}
use Rattle.mlsa.specs.declared.MelLogSpectrumApproximation.{MelLogSpectrumApproximation}
use Rattle.mlsa.specs.Mlsa as mlsa
use Rattle.mlsa.specs.Mlsa.{Part, ppade, weighed, first_row, second_row, downward, passing, df1_of, df2_of}
use Rattle.held.specs.Held.{Holds, AllHeld, HeldTaps}
use Rattle.held.proofs.FiltersKeep.{fir_keeps, rows_keep}
use Rattle.held.proofs.HeldLists.{held_set, held_row, held_put}

fir_held : (a : Float) (c : List Float) (x : Float) (d : List Float) → AllHeld d → AllHeld (fir_of a x c d).d × Holds (fir_of a x c d).y
unfolding fir_of
fir_held a c x d h = let all = taps a c (length d - 2) 2 (start a x d) in (fir_keeps AllHeld held_set a c x d h, add-fits binary64 all.on.y0 all.on.y1)

record HeldPart (p : Part) : Type 0 where
  pub d1 : AllHeld p.d1
  pub d2 : AllHeld p.d2
  pub x : Holds p.sums.x

weighed_held : (i : ℕ) (y : Float) (s : Sums) → Holds (weighed i y s).x
unfolding weighed
weighed_held i y s = let v = y ⊗ ppade ‼ i in add-fits binary64 s.x (cond (eqb (i % 2) 1) v (− v))

module _ (alpha : Float) (c : List Float) where
  first_row_lem : (i : ℕ) (p : Part) → HeldPart p → HeldPart (first_row alpha c i p)
  unfolding first_row
  first_row_lem i p h =
      let before = (1f ⊖ alpha ⊗ alpha) ⊗ p.d2 ‼ (i - 1) in
      let tap = before ⊕ alpha ⊗ p.d1 ‼ i in
      let y = tap ⊗ c ‼ 1 in
      record {
        d1 = held_set p.d1 i tap (add-fits binary64 before (alpha ⊗ p.d1 ‼ i)) h.d1;
        d2 = held_set p.d2 i y (mul-fits binary64 tap (c ‼ 1)) h.d2;
        x = weighed_held i y p.sums;
      }

  second_row_lem : (i : ℕ) (p : Part) → HeldPart p → HeldPart (second_row alpha c i p)
  unfolding second_row
  second_row_lem i p h =
      let from = (i - 1) * length c in
      let to = from + length c in
      let f = fir_of alpha (p.d2 ‼ (i - 1)) c (row from to p.d1) in
      let k = fir_held alpha c (p.d2 ‼ (i - 1)) (row from to p.d1) (held_row from to p.d1 h.d1) in
      record {
        d1 = held_put from to f.d p.d1 k.0 h.d1;
        d2 = held_set p.d2 i f.y k.1 h.d2;
        x = weighed_held i f.y p.sums;
      }

record HeldPassed (p : mlsa.Passed) : Type 0 where
  pub d1 : AllHeld p.d1
  pub d2 : AllHeld p.d2
  pub x : Holds p.x

passing_held : (one : ℕ → Part → Part) → ((i : ℕ) (p : Part) → HeldPart p → HeldPart (one i p)) → (d1 d2 : List Float) (x : Float) → AllHeld d1 → AllHeld d2 → Holds x
    → HeldPassed (passing one d1 d2 x)
passing_held one k d1 d2 x h1 h2 hx =
    let p = downward one 5 (mlsa.part d1 d2 (record { x = x; out = 0f })) in
    let h : HeldPart p = rows_keep HeldPart one (λ i q _. k i q) d1 d2 x (record { d1 = h1; d2 = h2; x = hx }) in
    record { d1 = h.d1; d2 = held_set p.d2 0 p.sums.x h.x h.d2; x = add-fits binary64 p.sums.x p.sums.out }

pub zero_stage : (alpha : Float) (c : List Float) (f : MelLogSpectrumApproximation) (x : Float) → HeldTaps f → Holds x → HeldTaps (mlsa.df_of alpha c f x).state
unfolding mlsa.df_of df1_of df2_of
zero_stage alpha c f x h hx =
    let a = passing_held (first_row alpha c) (first_row_lem alpha c) f.d11 f.d12 x h.d11 h.d12 hx in
    let b = passing_held (second_row alpha c) (second_row_lem alpha c) f.d21 f.d22 (passing (first_row alpha c) f.d11 f.d12 x).x h.d21 h.d22 a.x in
    record { d11 = a.d1; d12 = a.d2; d21 = b.d1; d22 = b.d2 }
