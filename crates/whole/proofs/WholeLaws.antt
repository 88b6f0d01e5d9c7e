-- The ways out of whole frame. Assumes nothing.
use mathlib.Core.Path.{◌≡◌, refl, sym, ◌∙◌}
use mathlib.Core.List.{List, []}
use Prim.Native.Nat.{ℕ, zero, suc}
use native.Mathlib.Omega.{arith}
use lib.ListN.{length}
use lib.Ieee.{Float}
use Rattle.history.specs.Machine.{answer, gave, whole}
use Rattle.voice.specs.declared.Voice.{Voice}
use Rattle.voice.specs.declared.answers.Refusal.{Refusal}
use Rattle.voice.specs.Answers.{number_of}
use Rattle.voice.proofs.AnswersLaws.{above_done}
use Rattle.refusing.specs.Refusal.{Frame}
use Rattle.giving.specs.Give.{◌otherwise◌, refusal, given}
use Rattle.drawing.specs.declared.Drawn.{Drawn}
use Rattle.drawing.specs.Draw.{drawn, Draws}
use Rattle.drawing.proofs.DrawLaws.{placed_none}
use Rattle.whole.specs.Whole.{short_of, rendered, Renders}

-- where neither of two numbers stands
none_of_both : (m n : ℕ) → m otherwise n ≡ 0 → (m ≡ 0) × (n ≡ 0)
none_of_both zero n e = (refl, e)
none_of_both (suc m) n e = absurd (omega arith)

module _ (f : Frame) (v : Voice) (out : List Float) (start : ℕ) where
  -- an answer without samples
  without : (n : ℕ) (w : Voice) → rendered f v out start ≡ answer n [] w → Renders f v out start (record { number = n; made = 0; voice = w }) out
  without n w e = record { number = rw e refl; made = rw e refl; voice = rw e refl; buffer = rw e (sym (placed_none start out)) }

  pub renders_refused : (e : Refusal) → number_of e ≡ (short_of v (length out) start otherwise refusal f v) → Renders f v out start (record { number = number_of e; made = 0; voice = v }) out
  unfolding whole gave
  renders_refused e h = go (above_done e) (short_of v (length out) start) refl
    where
      go : (n : ℕ) × (number_of e ≡ suc n) → (m : ℕ) → short_of v (length out) start ≡ m → Renders f v out start (record { number = number_of e; made = 0; voice = v }) out
      go (n, k) zero s = let r : refusal f v ≡ suc n = sym (rw s at h) ∙ k in rw k (without (suc n) v (rw (s, r) refl))
      go (n, k) (suc m) s = let r : number_of e ≡ suc m = rw s at h in rw r (without (suc m) v (rw s refl))

  pub renders_drawn : (w : Voice) (r : Drawn) (after : List Float) → short_of v (length out) start otherwise refusal f v ≡ 0 → w ≡ given f v → Draws w out start r after → Renders f v out start r after
  unfolding whole gave
  renders_drawn w r after none e d =
      let both = none_of_both (short_of v (length out) start) (refusal f v) none in
      let is : rendered f v out start ≡ drawn w out start = rw (both.0, both.1, e) refl in
      record { number = rw is d.number; made = rw is d.made; voice = rw is d.voice; buffer = rw is d.buffer }
