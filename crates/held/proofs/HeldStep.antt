-- A sample of a voice keeps it one of f64s. Assumes nothing.
use mathlib.Core.Path.{◌≡◌, subst}
use Prim.Native.Nat.{ℕ}
use lib.Dec.{eqb}
use lib.ListN.{take}
use lib.Ieee.{Float}
use Rattle.history.specs.Steps.{Step, dry, one}
use Rattle.history.specs.Feeding.{Feeding, turned_by}
use Rattle.excitation.specs.Excitation.{Excitation, step_of}
use Rattle.voice.specs.declared.Voice.{Voice}
use Rattle.drawing.specs.Step.{Filters, taps_of, increments_of, excitation_of, filters_of, sound_of, with_sound, counted, closed, closed_at_end, turn_of, sound_step, stepped, step}
use Rattle.held.specs.Held.{Holds, Held}
use Rattle.held.proofs.OutcomesKeep.{either}
use Rattle.held.proofs.NoiseKeeps.{Made}
use Rattle.held.proofs.HeldLists.{held_take, held_front}
use Rattle.held.proofs.HeldSources.{end_held}
use Rattle.held.proofs.HeldExcitation.{HeldExcitation, HeldSample, sample_held}
use Rattle.held.proofs.HeldFilters.{HeldFilters, turn_held}

abbrev Sound : Type 0
Sound = Feeding Excitation Filters

record HeldSound (s : Sound) : Type 0 where
  pub source : HeldExcitation s.source
  pub sink : HeldFilters s.sink

turned_held : (v : Voice) (t : Step Excitation Float) (f : Filters) → HeldSample t → HeldFilters f
    → Made Holds HeldSound (turned_by (turn_of v.configuration (increments_of v)) t f)
turned_held v dry f h k = tt
turned_held v (one x s) f h k = let t = turn_held v.configuration (increments_of v) f x k h.0 in (t.sample, record { source = h.1; sink = t.state })

module _ (v : Voice) (h : Held v) where
  excitation_now : HeldExcitation (excitation_of v)
  excitation_now = record { pulse = h.pulse; queue = h.queue; line = held_take v.configuration.nlpf v.line h.line }

  filters_now : HeldFilters (filters_of v)
  filters_now = record { c = held_take v.configuration.nmcp v.coefficients h.coefficients; zero = h.zero; nonzero = h.nonzero }

  with_sound_lem : (s : Sound) → HeldSound s → Held (counted 1 (with_sound s v))
  with_sound_lem s k = record {
    configuration = h.configuration;
    pulse = k.source.pulse;
    line = held_front s.source.line v.line k.source.line h.line;
    lpf = h.lpf;
    queue = k.source.queue;
    coefficients = held_front s.sink.c v.coefficients k.sink.c h.coefficients;
    increments = h.increments;
    targets = h.targets;
    zero = k.sink.zero;
    nonzero = k.sink.nonzero;
  }

  closed_held : Held (closed v)
  closed_held = record {
    configuration = h.configuration;
    pulse = end_held v.pulse h.pulse;
    line = h.line;
    lpf = h.lpf;
    queue = h.queue;
    coefficients = held_front (take v.configuration.nmcp v.targets) v.coefficients (held_take v.configuration.nmcp v.targets h.targets) h.coefficients;
    increments = h.increments;
    targets = h.targets;
    zero = h.zero;
    nonzero = h.nonzero;
  }

  closed_at_end_lem : Held (closed_at_end v)
  closed_at_end_lem = either Held (eqb v.left 0) (closed v) v closed_held h

stepped_held : (v : Voice) (t : Step Sound Float) → Held v → Made Holds HeldSound t → Made Holds Held (stepped t v)
stepped_held v dry h k = tt
stepped_held v (one x s) h k = (k.0, closed_at_end_lem (counted 1 (with_sound s v)) (with_sound_lem v h s k.1))

-- the sample is an f64, and the voice after it holds f64s alone
pub made_held : (bound : ℕ) (v : Voice) → Held v → Made Holds Held (step bound v)
unfolding step
made_held bound v h =
    stepped_held v (sound_step bound v (sound_of v)) h
    (turned_held v (step_of bound (taps_of v) (excitation_of v)) (filters_of v) (sample_held (taps_of v) (excitation_of v) (excitation_now v h) bound) (filters_now v h))

-- A SAMPLE KEEPS A VOICE ONE OF f64s,
pub step_held : (bound : ℕ) (v t : Voice) (x : Float) → Held v → step bound v ≡ one x t → Held t
step_held bound v t x h e = (subst (λ (s : Step Voice Float). Made Holds Held s) e (made_held bound v h)).1

-- and is one itself
pub sample_of_step : (bound : ℕ) (v t : Voice) (x : Float) → Held v → step bound v ≡ one x t → Holds x
sample_of_step bound v t x h e = (subst (λ (s : Step Voice Float). Made Holds Held s) e (made_held bound v h)).0
