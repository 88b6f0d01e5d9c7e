-- The increments one by one, and where they are made. Assumes nothing.
use Rattle.std.specs.Prelude.{Result, Ok}
use mathlib.Core.Path.{◌≡◌, refl, ap}
use mathlib.Core.List.{List, [], ◌∷◌}
use Prim.Native.Nat.{ℕ, zero, suc, ◌<◌}
use native.Mathlib.Omega.{arith}
use lib.IntN.{pos}
use lib.ListN.{length}
use lib.Ieee.{Float, binary64, of_int}
use Rattle.number.specs.F64.{◌⊖◌, ◌⊘◌, ◌‼◌}
use Rattle.elementary.specs.declared.answer.Outside.{Outside}
use Rattle.elementary.specs.Outcome.{Outcome, outside, inside, prepared_of}
use Rattle.prepare.specs.Preparing.{Spectra, start_after, targets_after}
use Rattle.giving.specs.Begin.{increments_of, increments_after}

module _ (n : ℕ) where
  pub increment_at : (t s : List Float) (i : ℕ) → i < length t → length s ≡ length t
      → increments_of n t s ‼ i ≡ (t ‼ i ⊖ s ‼ i) ⊘ of_int binary64 (pos n)
  unfolding increments_of
  increment_at [] s i h e = absurd (omega arith)
  increment_at (x ∷ t) [] i h e = absurd (omega arith)
  increment_at (x ∷ t) (y ∷ s) zero h e = refl
  increment_at (x ∷ t) (y ∷ s) (suc i) h e = increment_at t s i (omega arith) (omega arith)

  pub length_increments : (t s : List Float) → length s ≡ length t → length (increments_of n t s) ≡ length t
  unfolding increments_of
  length_increments [] s e = refl
  length_increments (x ∷ t) [] e = absurd (omega arith)
  length_increments (x ∷ t) (y ∷ s) e = ap suc (length_increments t s (omega arith))

-- where preparing is inside, the increments are those of what it made
pub increments_after_lem : (n : ℕ) (d : Outcome Spectra) (r : Result Unit Outside) (start targets before after : List Float) → r ≡ prepared_of d → r ≡ Ok tt
    → after ≡ increments_of n (targets_after targets d) (start_after start d) → after ≡ increments_after n before d
increments_after_lem n outside r start targets before after e i h = let z : ◌≡◌ {A = ℕ} 0 1 = cc in absurd (omega arith)
increments_after_lem n (inside p) r start targets before after e i h = h
