-- The gains of stage 0 in blocks: each by the parts of its exp, which are made before. Assumes nothing.
use mathlib.Core.Path.{◌≡◌, refl, ap, ◌∙◌}
use mathlib.Core.List.{List, [], ◌∷◌}
use mathlib.Core.Bool.{true, false}
use mathlib.Core.Logic.{◌⊎◌, inl, inr}
use Prim.Native.Nat.{ℕ, ◌+◌, ◌<◌}
use native.Mathlib.Nat.{eq-or-lt_of_le}
use native.Mathlib.Numerals.{add-one}
use native.Mathlib.Omega.{arith}
use lib.ListN.{length, set}
use lib.Seq.{get_or-set_same, get_or-set_other}
use lib.Ieee.{Float, nan, ne}
use Rattle.number.specs.F64.{◌⊕◌, ◌⊗◌, ◌‼◌, 0f}
use Rattle.exponential.specs.Exp.{sum_at, exp_of}
use Rattle.history.specs.Through.{Turned}
use Rattle.history.proofs.ThroughLaws.{from_here, through_turn}
use Rattle.filter.specs.Zero.{gained, gain_of, on_by, Prepared}

-- the gain, by the test of the sample
pub gained_loud : (c0 x e : Float) → ne x 0f ≡ true → e ≡ exp_of c0 → x ⊗ e ≡ gained (c0 ∷ []) x
unfolding gained
gained_loud c0 x e t made = rw (t, made) refl

pub gained_still : (c0 x : Float) → ne x 0f ≡ false → x ≡ gained (c0 ∷ []) x
unfolding gained
gained_still c0 x t = rw t refl

module _ (increment start : Float) where
  pub on_next : (i : ℕ) → on_by increment start (i + 1) ≡ on_by increment start i ⊕ increment
  unfolding on_by
  on_next i = rw (add-one i) refl

  -- the parts of one exp more
  pub prepared_more : (i : ℕ) (rests powers : List Float) (c0 rest power : Float) → i < length rests → i < length powers
      → c0 ≡ on_by increment start i → sum_at rest ⊗ power ≡ exp_of c0
      → Prepared increment start i rests powers → Prepared increment start (i + 1) (set rests i rest) (set powers i power)
  prepared_more i rests powers c0 rest power hr hp here made all j h = go j (eq-or-lt_of_le {n = j} {m = i} (omega arith))
    where
      go : (j : ℕ) → (j ≡ i) ⊎ (j < i) → sum_at (set rests i rest ‼ j) ⊗ (set powers i power ‼ j) ≡ exp_of (on_by increment start j)
      go j (inl e) = rw (e, get_or-set_same rests i rest nan hr, get_or-set_same powers i power nan hp, ← here) made
      go j (inr l) = rw (get_or-set_other rests i j rest nan (λ z. omega arith), get_or-set_other powers i j power nan (λ z. omega arith)) (all j l)

  -- a sample more has its gain
  pub gain_turn : (i : ℕ) (d : List Float) (loud : Float) → i < length d → loud ≡ gained (on_by increment start i ∷ []) (d ‼ i)
      → from_here (gain_of increment) (i + 1) (on_by increment start (i + 1)) (set d i loud) ≡ from_here (gain_of increment) i (on_by increment start i) d
  gain_turn i d loud h made =
      ap (λ (c0 : Float). from_here (gain_of increment) (i + 1) c0 (set d i loud)) (on_next i)
      ∙ through_turn (gain_of increment) i (on_by increment start i) d nan (record { sample = loud; state = on_by increment start i ⊕ increment }) h
      (ap {B = Turned Float Float} (λ (y : Float). record { sample = y; state = on_by increment start i ⊕ increment }) made)
