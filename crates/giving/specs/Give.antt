-- Give. Assumes nothing.
use Rattle.std.specs.Prelude.{◌≡◌, Bool, true, false, [], ◌∷◌, ℕ, zero, suc, take, Result, IfOk}
use Rattle.elementary.specs.Outcome.{Outcome, outside, inside}
use Rattle.prepare.specs.Preparing.{Spectra}
use Rattle.pulse.specs.Train.{start_of}
use Rattle.history.specs.Numbers.{argument_outside}
use Rattle.history.specs.Machine.{◌⇒◌, first_of}
use Rattle.voice.specs.declared.Voice.{Voice}
use Rattle.voice.specs.declared.Answered.{Answered}
use Rattle.voice.specs.declared.answers.Refusal.{Refusal}
use Rattle.voice.specs.Voice.{in_front}
use Rattle.voice.specs.Answers.{number_for}
use Rattle.refusing.specs.Refusal.{Frame, earlier}
use Rattle.giving.specs.Pitch.{pitch_of}
use Rattle.giving.specs.Begin.{prepared_for, increments_of}

-- the frame's coefficients, from those that the voice has now
unfoldable pub prepared : Frame → Voice → Outcome Spectra
prepared f v = prepared_for v.configuration v.first (take v.configuration.nmcp v.coefficients) f.spectrum

abbrev pub is_outside : {A : Type 0} → Outcome A → Bool
is_outside outside = true
is_outside (inside a) = false

infixl 20 ◌otherwise◌
-- ROW 9, after the others
abbrev pub ◌otherwise◌ : ℕ → ℕ → ℕ
zero otherwise n = n
suc m otherwise n = suc m

unfoldable pub refusal : Frame → Voice → ℕ
refusal f v = earlier f v otherwise first_of (is_outside (prepared f v) ⇒ argument_outside ∷ [])

-- THE VOICE after an accepted frame: its coefficients, increments, targets and taps; `start` run, the first flag cleared, and fperiod samples left
unfoldable pub begun : Frame → Spectra → Voice → Voice
begun f p v =
    let c = v.configuration in
    record {
      configuration = c;
      meter = v.meter;
      left = c.fperiod;
      first = false;
      pulse = start_of v.pulse (pitch_of c f.lf0) c.fperiod;
      line = v.line;
      lpf = in_front f.lpf v.lpf;
      random = v.random;
      coefficients = in_front p.start v.coefficients;
      increments = in_front (increments_of c.fperiod p.targets p.start) v.increments;
      targets = in_front p.targets v.targets;
      zero = v.zero;
      nonzero = v.nonzero;
    }

abbrev pub begun_with : Frame → Voice → Outcome Spectra → Voice
begun_with f v outside = v
begun_with f v (inside p) = begun f p v

unfoldable pub given : Frame → Voice → Voice
given f v = begun_with f v (prepared f v)

-- what comes of a frame: the voice after it, or the number that refuses it
pub record Accepts (f : Frame) (v : Voice) (r : Result Voice Refusal) : Type 0 where
  pub number : number_for r ≡ refusal f v
  pub voice : IfOk r (λ after. after ≡ given f v)

-- by the number: what there is after a call that is done, and else as it was
abbrev pub where_done : {A : Type 0} → ℕ → A → A → A
where_done zero after before = after
where_done (suc n) after before = before

-- WHAT GIVE PROMISES of its answer: the number that refuses the frame, and the voice after it, which is as it was where the frame is refused
pub record Gives (f : Frame) (v : Voice) (r : Answered) : Type 0 where
  pub number : r.number ≡ refusal f v
  pub voice : r.voice ≡ where_done (refusal f v) (given f v) v
