-- The ways out of giving a frame. Assumes nothing.
use mathlib.Core.Path.{◌≡◌, refl}
use Rattle.std.specs.Prelude.{Ok, Err}
use mathlib.Core.Bool.{false}
use mathlib.Core.List.{List, ◌++◌}
use Prim.Native.Nat.{ℕ, suc}
use native.Mathlib.Omega.{arith}
use lib.ListN.{length, take, drop}
use lib.Ieee.{Float}
use Rattle.elementary.specs.Outcome.{Outcome, outside, inside, prepared_of}
use Rattle.prepare.specs.Preparing.{Spectra, start_after, targets_after}
use Rattle.pulse.specs.declared.Pulse.{Pulse}
use Rattle.pulse.specs.Train.{start_of}
use Rattle.voice.specs.declared.Voice.{Voice}
use Rattle.voice.specs.declared.answers.Refusal.{Refusal}
use Rattle.voice.specs.declared.answers.Refusal.TheVariants.{ArgumentOutside}
use Rattle.voice.specs.Answers.{number_of}
use Rattle.voice.proofs.AnswersLaws.{above_done}
use Rattle.refusing.specs.Refusal.{Frame, earlier}
use Rattle.giving.specs.Pitch.{pitch_of}
use Rattle.giving.specs.Begin.{prepared_for, increments_after}
use Rattle.giving.specs.Give.{prepared, refusal, begun, given, Accepts}

module _ (f : Frame) (v : Voice) where
  -- as the code lends and asks it
  abbrev pub lent_to : List Float → List Float
  lent_to array = take v.configuration.nmcp array

  abbrev pub asked : Outcome Spectra
  asked = prepared_for v.configuration v.first (lent_to v.coefficients) f.spectrum

  pub accepts_refused : (e : Refusal) → number_of e ≡ earlier f v → Accepts f v (Err e)
  unfolding refusal
  accepts_refused e h = record { number = go (above_done e); voice = tt }
    where
      go : (n : ℕ) × (number_of e ≡ suc n) → number_of e ≡ refusal f v
      go (n, k) = rw (← h, k) refl

  module _ (none : earlier f v ≡ 0) where
    pub accepts_outside : asked ≡ outside → Accepts f v (Err ArgumentOutside)
    unfolding refusal prepared
    accepts_outside e = record { number = rw (none, e) refl; voice = tt }

    -- the voice as the code builds it, the parts that were lent put back
    module _ (pulse : Pulse) (start increments targets : List Float) (pulse-is : pulse ≡ start_of v.pulse (pitch_of v.configuration f.lf0) v.configuration.fperiod)
        (n : length start ≡ v.configuration.nmcp) (m : length increments ≡ v.configuration.nmcp) (k : length targets ≡ v.configuration.nmcp) (l : length f.lpf ≡ v.configuration.nlpf) where
      abbrev pub built : Voice
      built =
          let c = v.configuration in
          record {
            configuration = c;
            meter = v.meter;
            left = c.fperiod;
            first = false;
            pulse = pulse;
            line = v.line;
            lpf = f.lpf ++ drop c.nlpf v.lpf;
            random = v.random;
            coefficients = start ++ drop c.nmcp v.coefficients;
            increments = increments ++ drop c.nmcp v.increments;
            targets = targets ++ drop c.nmcp v.targets;
            zero = v.zero;
            nonzero = v.nonzero;
          }

      pub accepts_inside : (d : Outcome Spectra) → d ≡ asked → prepared_of d ≡ Ok tt → start ≡ start_after (lent_to v.coefficients) d → targets ≡ targets_after (lent_to v.targets) d
          → increments ≡ increments_after v.configuration.fperiod (lent_to v.increments) d → Accepts f v (Ok built)
      unfolding refusal prepared given begun
      accepts_inside outside a i s t h = let z : ◌≡◌ {A = ℕ} 0 1 = cc in absurd (omega arith)
      accepts_inside (inside p) a i s t h =
          record {
            number = rw (none, ← a) refl;
            voice = rw (← a, pulse-is, ← h, ← s, ← t, n, m, k, l) refl;
          }
