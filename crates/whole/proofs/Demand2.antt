-- Demand 2: a frame is accepted exactly where no refusal applies, and gives exactly the samples and the next state of the definitions; and the items of document 01 about calls. Assumes nothing.
use mathlib.Core.Path.{◌≡◌, refl, sym, ap, ◌∙◌}
use mathlib.Core.Bool.{true, false}
use mathlib.Core.List.{List}
use Prim.Native.Nat.{ℕ, zero, suc, ◌≤◌}
use native.Mathlib.Nat.{min-eq_right, zero-mod}
use native.Mathlib.Omega.{arith}
use lib.ListN.{length}
use lib.Ieee.{Float, of_bits, neg, lt, le}
use borrow.Author.Tests.{ne_eqb, le-ltb, le-leb}
use Rattle.history.specs.Steps.{steps}
use Rattle.history.specs.Machine.{Answer, sampled, gave, drew, whole}
use Rattle.noise.specs.Draw.{tries}
use Rattle.elementary.specs.Outcome.{Outcome, outside, inside}
use Rattle.prepare.specs.Preparing.{Spectra}
use Rattle.configuration.specs.declared.Configuration.{Configuration}
use Rattle.configuration.specs.Limits.{limits_kept, sized, usual}
use Rattle.voice.specs.declared.Voice.{Voice}
use Rattle.voice.specs.declared.Answered.{Answered}
use Rattle.voice.specs.Voice.{idle, acceptable, at_rest, fresh_voice}
use Rattle.voice.specs.Open.{Opens}
use Rattle.voice.proofs.IdleLaws.{usable_on}
use Rattle.refusing.specs.Refusal.{Frame, frame, earlier}
use Rattle.refusing.proofs.EarlierLaws.{fits_of, sizes_of}
use Rattle.giving.specs.Give.{prepared, refusal, begun, given, Gives}
use Rattle.drawing.specs.declared.Drawn.{Drawn}
use Rattle.drawing.specs.Step.{step}
use Rattle.drawing.specs.Draw.{room_from, placed, Draws}
use Rattle.whole.specs.Whole.{rendered, Renders}

-- ---- ACCEPTED EXACTLY WHERE NO REFUSAL APPLIES

-- give answers 0 exactly where no row of the table does, and then the voice is the definition's
pub accepted_when_none : (f : Frame) (v : Voice) (r : Answered) → Gives f v r → refusal f v ≡ 0 → (r.number ≡ 0) × (r.voice ≡ given f v)
accepted_when_none f v r p e = (p.number ∙ e, p.voice ∙ rw e refl)

pub none_when_accepted : (f : Frame) (v : Voice) (r : Answered) → Gives f v r → r.number ≡ 0 → refusal f v ≡ 0
none_when_accepted f v r p e = sym p.number ∙ e

-- and else its number is that of the row, and the voice is as it was
pub refused_unchanged : (f : Frame) (v : Voice) (r : Answered) (n : ℕ) → Gives f v r → refusal f v ≡ suc n → (r.number ≡ suc n) × (r.voice ≡ v)
refused_unchanged f v r n p e = (p.number ∙ e, p.voice ∙ rw e refl)

-- no refusal applies exactly where none of the rows 2 to 8 does and preparing is inside
pub none_applies : (f : Frame) (v : Voice) (p : Spectra) → earlier f v ≡ 0 → prepared f v ≡ inside p → (refusal f v ≡ 0) × (given f v ≡ begun f p v)
unfolding refusal given
none_applies f v p e i = (rw (e, i) refl, rw i refl)

-- ---- THE SAMPLES AND THE NEXT STATE OF THE DEFINITION

module _ (f : Frame) (v : Voice) where
  -- where nothing refuses the frame, no earlier row does and preparing is inside
  pub earlier_none : refusal f v ≡ 0 → earlier f v ≡ 0
  unfolding refusal
  earlier_none e = go (earlier f v) refl
    where
      go : (n : ℕ) → earlier f v ≡ n → earlier f v ≡ 0
      go zero h = h
      go (suc n) h = let z : suc n ≡ 0 = rw h at e in absurd (omega arith)

  usable_after : earlier f v ≡ 0 → (d : Outcome Spectra) → prepared f v ≡ d → refusal f v ≡ 0 → idle (given f v) ≡ false
  unfolding refusal given begun idle
  usable_after e outside h r = let z : ◌≡◌ {A = ℕ} 9 0 = rw (e, h) at r in absurd (omega arith)
  usable_after e (inside p) h r =
      let fit = fits_of f v e in
      rw (h, usable_on v.configuration v.meter v.first v.random.used (rw fit.none_left at fit.usable) fit.room) refl

-- an accepted frame leaves a voice that is not idle
pub still_usable : (f : Frame) (v : Voice) → refusal f v ≡ 0 → idle (given f v) ≡ false
still_usable f v e = usable_after f v (earlier_none f v e) (prepared f v) refl e

left_after : (f : Frame) (v : Voice) → (d : Outcome Spectra) → prepared f v ≡ d → refusal f v ≡ 0 → (given f v).left ≡ v.configuration.fperiod
unfolding refusal given begun
left_after f v outside h r = let z : ◌≡◌ {A = ℕ} 9 0 = rw (earlier_none f v r, h) at r in absurd (omega arith)
left_after f v (inside p) h r = rw h refl

rendered_is : (f : Frame) (v : Voice) (out : List Float) (start : ℕ) → refusal f v ≡ 0 → v.configuration.fperiod ≤ room_from start out
    → rendered f v out start ≡ sampled (steps (step tries) v.configuration.fperiod (given f v))
unfolding whole gave drew idle
rendered_is f v out start e room =
    let fit = fits_of f v (earlier_none f v e) in
    let left = left_after f v (prepared f v) refl e in
    let some = (sizes_of f v fit).fperiod_least in
    rw (
      fit.usable,
      le-ltb (room_from start out) v.configuration.fperiod room,
      e,
      still_usable f v e,
      left,
      ne_eqb v.configuration.fperiod 0 (λ (z : v.configuration.fperiod ≡ 0). absurd (omega (arith, z, some))),
      min-eq_right room,
    ) refl

-- a whole frame that is accepted, with room for it: fperiod steps from the voice that give leads to, in their place in the buffer
pub frame_samples : (f : Frame) (v : Voice) (out : List Float) (start : ℕ) (r : Drawn) (after : List Float) → Renders f v out start r after
    → refusal f v ≡ 0 → v.configuration.fperiod ≤ room_from start out
    → let run = steps (step tries) v.configuration.fperiod (given f v) in
    (r.number ≡ (sampled run).number) × (r.made ≡ length run.made) × (r.voice ≡ run.state) × (after ≡ placed start run.made out)
frame_samples f v out start r after p e room =
    let is = rendered_is f v out start e room in (
      p.number ∙ ap (λ (a : Answer Voice Float). a.number) is,
      p.made ∙ ap (λ (a : Answer Voice Float). length a.made) is,
      p.voice ∙ ap (λ (a : Answer Voice Float). a.state) is,
      p.buffer ∙ ap (λ (a : Answer Voice Float). placed start a.made out) is,
    )

-- ---- DOCUMENT 01'S ITEMS 9, 10 AND 11

-- 9: open with nmcp 1, whatever else: 1; with 2: 0
pub item_9_one : (c : Configuration) (r : Answered) → c.nmcp ≡ 1 → Opens c r → r.number ≡ 1
unfolding limits_kept
item_9_one c r e p = p.number ∙ rw e refl

pub item_9_two : (r : Answered) → Opens (sized 2 0) r → r.number ≡ 0
unfolding limits_kept of_bits neg lt le
item_9_two r p = p.number

-- 10: a spectrum of 24 or 26 entries, or of any number but nmcp, to a fresh voice of nmcp 25: 4
pub item_10 : (lf0 : Float) (spectrum lpf : List Float) (r : Answered) → (length spectrum ≡ 25 → ⊥) → Gives (frame lf0 spectrum lpf) (fresh_voice usual) r → r.number ≡ 4
unfolding refusal earlier idle acceptable at_rest limits_kept of_bits neg lt le
item_10 lf0 spectrum lpf r h p = p.number ∙ rw (ne_eqb (length spectrum) 25 h) refl

-- 11: draw on a fresh voice, whatever the buffer: 10
pub item_11 : (c : Configuration) (out : List Float) (start : ℕ) (r : Drawn) (after : List Float) → limits_kept c ≡ true → Draws (fresh_voice c) out start r after → r.number ≡ 10
unfolding drew idle acceptable at_rest
item_11 c out start r after k p = p.number ∙ rw (k, le-leb 0 c.fperiod (omega arith), zero-mod c.fperiod) refl
