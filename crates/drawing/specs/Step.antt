-- One sample of a voice. Assumes nothing.
use Rattle.std.specs.Prelude.{cond, List, ℕ, ◌+◌, ◌-◌, eqb, take, Float}
use Rattle.history.specs.Steps.{Step, dry, one}
use Rattle.history.specs.Through.{Turned, Passage, passage, through}
use Rattle.history.specs.Feeding.{Feeding, feeding, fed, within}
use Rattle.noise.specs.declared.Random.{Random}
use Rattle.pulse.specs.declared.Pulse.{Pulse}
use Rattle.pulse.specs.Train.{end_of}
use Rattle.excitation.specs.Excitation as excitation
use Rattle.excitation.specs.Excitation.{Excitation, step_of}
use Rattle.mlsa.specs.declared.MelLogSpectrumApproximation.{MelLogSpectrumApproximation}
use Rattle.mglsa.specs.declared.MelGeneralizedLogSpectrumApproximation.{MelGeneralizedLogSpectrumApproximation}
use Rattle.filter.specs.Sample.{state}
use Rattle.filter.specs.Zero as zeroStage
use Rattle.filter.specs.NonZero as otherStages
use Rattle.configuration.specs.declared.Configuration.{Configuration}
use Rattle.voice.specs.declared.Voice.{Voice}
use Rattle.voice.specs.Voice.{in_front}

-- ---- what a sample reads and changes of a voice

-- the frame's taps and increments, which stay
abbrev pub taps_of : Voice → List Float
taps_of v = take v.configuration.nlpf v.lpf

abbrev pub increments_of : Voice → List Float
increments_of v = take v.configuration.nmcp v.increments

-- the excitation,
abbrev pub excitation_of : Voice → Excitation
excitation_of v = excitation.state v.pulse v.random (take v.configuration.nlpf v.line)

-- and the coefficients with the taps of both filters
pub record Filters : Type 0 where
  pub c : List Float
  pub zero : MelLogSpectrumApproximation
  pub nonzero : List Float

abbrev pub filters : List Float → MelLogSpectrumApproximation → List Float → Filters
filters c zero nonzero = record { c = c; zero = zero; nonzero = nonzero }

abbrev pub filters_of : Voice → Filters
filters_of v = filters (take v.configuration.nmcp v.coefficients) v.zero v.nonzero.d

abbrev pub sound_of : Voice → Feeding Excitation Filters
sound_of v = feeding (excitation_of v) (filters_of v)

-- ---- the voice with other values in their place

abbrev pub moved : Voice → (meter left : ℕ) → Pulse → Random → (line coefficients : List Float)
    → MelLogSpectrumApproximation → MelGeneralizedLogSpectrumApproximation → Voice
moved v meter left pulse random line coefficients zero nonzero = record {
  configuration = v.configuration;
  meter = meter;
  left = left;
  first = v.first;
  pulse = pulse;
  line = line;
  lpf = v.lpf;
  random = random;
  coefficients = coefficients;
  increments = v.increments;
  targets = v.targets;
  zero = zero;
  nonzero = nonzero;
}

abbrev pub with_excitation : Excitation → Voice → Voice
with_excitation e v = moved v v.meter v.left e.pulse e.random (in_front e.line v.line) v.coefficients v.zero v.nonzero

abbrev pub with_filters : Filters → Voice → Voice
with_filters f v = moved v v.meter v.left v.pulse v.random v.line (in_front f.c v.coefficients) f.zero (record { d = f.nonzero })

abbrev pub with_sound : Feeding Excitation Filters → Voice → Voice
with_sound s v = with_filters s.sink (with_excitation s.source v)

-- n samples more on the meter, and as many fewer left
abbrev pub counted : ℕ → Voice → Voice
counted n v = moved v (v.meter + n) (v.left - n) v.pulse v.random v.line v.coefficients v.zero v.nonzero

-- the frame's end: `end` run, and the coefficients at their targets
abbrev pub closed : Voice → Voice
closed v = moved v v.meter v.left (end_of v.pulse) v.random v.line (in_front (take v.configuration.nmcp v.targets) v.coefficients) v.zero v.nonzero

abbrev pub closed_at_end : Voice → Voice
closed_at_end v = cond (eqb v.left 0) (closed v) v

-- ---- THE SAMPLE

-- the filter of the stage: the other's taps stay
abbrev pub turn_zero : Configuration → List Float → Filters → Float → Turned Filters Float
turn_zero c increments =
    within (λ (f : Filters). state f.c f.zero) (λ s f. filters s.c s.filter f.nonzero) (zeroStage.sample_of c.alpha c.volume increments)

abbrev pub turn_nonzero : Configuration → List Float → Filters → Float → Turned Filters Float
turn_nonzero c increments =
    within (λ (f : Filters). state f.c f.nonzero) (λ s f. filters s.c f.zero s.filter) (otherStages.sample_of c.alpha c.stage c.volume increments)

unfoldable pub turn_of : Configuration → List Float → Filters → Float → Turned Filters Float
turn_of c increments = cond (eqb c.stage 0) (turn_zero c increments) (turn_nonzero c increments)

-- the excitation, fed to the filter; the bound is that on the tries for a pair of noise values
abbrev pub sound_step : ℕ → Voice → Feeding Excitation Filters → Step (Feeding Excitation Filters) Float
sound_step bound v = fed (step_of bound (taps_of v)) (turn_of v.configuration (increments_of v))

-- what it makes of the voice: one sample counted, and the frame's end after the last one
abbrev pub stepped : Step (Feeding Excitation Filters) Float → Voice → Step Voice Float
stepped dry v = dry
stepped (one x s) v = one x (closed_at_end (counted 1 (with_sound s v)))

unfoldable pub step : ℕ → Voice → Step Voice Float
step bound v = stepped (sound_step bound v (sound_of v)) v

-- samples of the excitation through the voice's filter
unfoldable pub filtered : Voice → List Float → Passage Voice Float
filtered v xs = let p = through (turn_of v.configuration (increments_of v)) (filters_of v) xs in passage p.made (with_filters p.state v)
