-- The slots of a voice, in the order of the rest records, and the voice that such values make. Assumes nothing.
use Rattle.std.specs.Prelude.{Bool, not, cond, List, [], ◌∷◌, ◌++◌, map, ℕ, ◌+◌, ◌*◌, eqb, get_or, take, drop, replicate, Float}
use Rattle.number.specs.F64.{0f}
use Rattle.number.specs.Bits.{bits_of, float_of}
use Rattle.records.specs.Records.{Slot, numbered}
use Rattle.pulse.specs.declared.Pulse.{Pulse}
use Rattle.noise.specs.declared.Random.{Random}
use Rattle.mlsa.specs.declared.MelLogSpectrumApproximation.{MelLogSpectrumApproximation}
use Rattle.mlsa.specs.Mlsa.{fresh_filter}
use Rattle.mglsa.specs.declared.MelGeneralizedLogSpectrumApproximation.{MelGeneralizedLogSpectrumApproximation}
use Rattle.mglsa.specs.Mglsa.{fresh_rows}
use Rattle.configuration.specs.declared.Configuration.{Configuration}
use Rattle.voice.specs.declared.Voice.{Voice}
use Rattle.voice.specs.Voice.{none, in_front}

-- ---- FROM A VOICE

-- floats go by their bits, a flag as 0 or 1
abbrev pub bits : List Float → List ℕ
bits xs = map bits_of xs

abbrev pub flag : Bool → ℕ
flag b = cond b 1 0

-- slots 0 to 11
abbrev pub configuration_values : Configuration → List ℕ
configuration_values c =
    c.nmcp ∷ c.nlpf ∷ c.stage ∷ flag c.log ∷ c.rate ∷ bits_of c.alpha ∷ bits_of c.beta ∷ bits_of c.volume
    ∷ c.fperiod ∷ bits_of c.nodata ∷ bits_of c.low ∷ bits_of c.high ∷ []

-- meter, samples left, first flag; pitch, counter, increment, end pitch
abbrev pub counter_values : Voice → List ℕ
counter_values v =
    v.meter ∷ v.left ∷ flag v.first ∷ bits_of v.pulse.pitch ∷ bits_of v.pulse.counter ∷ bits_of v.pulse.increment ∷ bits_of v.pulse.end ∷ []

abbrev pub head_values : Voice → List ℕ
head_values v = configuration_values v.configuration ++ counter_values v

-- at stage 0 the six d11, six d12, six d22, then d21 row by row, else the stage rows
abbrev pub filter_values : Voice → List ℕ
filter_values v =
    cond (eqb v.configuration.stage 0)
    (bits v.zero.d11 ++ (bits v.zero.d12 ++ (bits v.zero.d22 ++ bits (take (6 * v.configuration.nmcp) v.zero.d21))))
    (bits (take (v.configuration.stage * v.configuration.nmcp) v.nonzero.d))

-- nlpf taps of the line, nlpf filter taps of the last frame; noise `next`, used, 64 values
abbrev pub excitation_values : Voice → List ℕ
excitation_values v =
    bits (take v.configuration.nlpf v.line)
    ++ (bits (take v.configuration.nlpf v.lpf)
    ++ (v.random.next ∷ v.random.used ∷ bits v.random.queue))

-- nmcp coefficients, increments, targets
abbrev pub spectrum_values : Voice → List ℕ
spectrum_values v =
    bits (take v.configuration.nmcp v.coefficients)
    ++ (bits (take v.configuration.nmcp v.increments)
    ++ bits (take v.configuration.nmcp v.targets))

-- THE SLOTS
unfoldable pub values_of : Voice → List ℕ
values_of v = head_values v ++ (excitation_values v ++ (spectrum_values v ++ filter_values v))

-- slot and value of each
abbrev pub slots_of : Voice → List Slot
slots_of v = numbered 0 (values_of v)

-- HOW MANY: those of the filter, and all
abbrev pub filter_count : Configuration → ℕ
filter_count c = cond (eqb c.stage 0) (18 + 6 * c.nmcp) (c.stage * c.nmcp)

unfoldable pub count_of : Configuration → ℕ
count_of c =
    cond (eqb c.stage 0)
    (103 + 2 * c.nlpf + 9 * c.nmcp)
    (85 + 2 * c.nlpf + (3 + c.stage) * c.nmcp)

-- ---- TO A VOICE

module _ (ws : List ℕ) where
  abbrev pub slot_at : ℕ → ℕ
  slot_at i = get_or ws i 0

  abbrev pub float_at : ℕ → Float
  float_at i = float_of (slot_at i)

  abbrev pub floats_at : (at n : ℕ) → List Float
  floats_at at n = map float_of (take n (drop at ws))

  -- so many of them in front of an array of zeros
  abbrev pub array_at : (at n : ℕ) → List Float
  array_at at n = in_front (floats_at at n) none

  unfoldable pub configuration_in : Configuration
  configuration_in = record {
    nmcp = slot_at 0;
    nlpf = slot_at 1;
    stage = slot_at 2;
    log = not (eqb (slot_at 3) 0);
    rate = slot_at 4;
    alpha = float_at 5;
    beta = float_at 6;
    volume = float_at 7;
    fperiod = slot_at 8;
    nodata = float_at 9;
    low = float_at 10;
    high = float_at 11;
  }

  abbrev pub first_in : Bool
  first_in = not (eqb (slot_at 14) 0)

-- where the arrays begin
module _ (nlpf : ℕ) where
  abbrev pub lpf_at : ℕ
  lpf_at = 19 + nlpf

  abbrev pub noise_at : ℕ
  noise_at = lpf_at + nlpf

  abbrev pub queue_at : ℕ
  queue_at = noise_at + 2

  abbrev pub spectrum_at : ℕ
  spectrum_at = noise_at + 66

abbrev pub filter_at : (nmcp nlpf : ℕ) → ℕ
filter_at nmcp nlpf = spectrum_at nlpf + nmcp + nmcp + nmcp

unfoldable pub pulse_in : List ℕ → Pulse
pulse_in ws = record { pitch = float_at ws 15; counter = float_at ws 16; increment = float_at ws 17; end = float_at ws 18 }

unfoldable pub random_in : List ℕ → (at : ℕ) → Random
random_in ws at = record { next = slot_at ws at; used = slot_at ws (at + 1); queue = floats_at ws (at + 2) 64 }

unfoldable pub zero_in : List ℕ → (at nmcp : ℕ) → MelLogSpectrumApproximation
zero_in ws at nmcp = record {
  d11 = floats_at ws at 6;
  d12 = floats_at ws (at + 6) 6;
  d22 = floats_at ws (at + 6 + 6) 6;
  d21 = in_front (floats_at ws (at + 6 + 6 + 6) (6 * nmcp)) (replicate 384 0f);
}

unfoldable pub nonzero_in : List ℕ → (at count : ℕ) → MelGeneralizedLogSpectrumApproximation
nonzero_in ws at count = record { d = in_front (floats_at ws at count) (replicate 512 0f) }

-- the filter that is in use, and the other one fresh
abbrev pub zero_for : Configuration → List ℕ → (at : ℕ) → MelLogSpectrumApproximation
zero_for c ws at = cond (eqb c.stage 0) (zero_in ws at c.nmcp) fresh_filter

abbrev pub nonzero_for : Configuration → List ℕ → (at : ℕ) → MelGeneralizedLogSpectrumApproximation
nonzero_for c ws at = cond (eqb c.stage 0) fresh_rows (nonzero_in ws at (c.stage * c.nmcp))

-- the voice of a configuration whose slots these are
unfoldable pub voice_with : Configuration → List ℕ → Voice
voice_with c ws =
    let noise = noise_at c.nlpf in
    let spectrum = spectrum_at c.nlpf in
    let filter = filter_at c.nmcp c.nlpf in
    record {
      configuration = c;
      meter = slot_at ws 12;
      left = slot_at ws 13;
      first = first_in ws;
      pulse = pulse_in ws;
      line = array_at ws 19 c.nlpf;
      lpf = array_at ws (lpf_at c.nlpf) c.nlpf;
      random = random_in ws noise;
      coefficients = array_at ws spectrum c.nmcp;
      increments = array_at ws (spectrum + c.nmcp) c.nmcp;
      targets = array_at ws (spectrum + c.nmcp + c.nmcp) c.nmcp;
      zero = zero_for c ws filter;
      nonzero = nonzero_for c ws filter;
    }

abbrev pub voice_in : List ℕ → Voice
voice_in ws = voice_with (configuration_in ws) ws
