-- Histories of the voice itself, computed: two frames, the first of them cut, saved and resumed in the idle voice. Assumes nothing.
use Rattle.std.specs.Prelude.{◌≡◌, refl, false, List, [], ◌∷◌, ℕ, pos, negsuc, replicate, Float}
use Rattle.std.specs.Float.{fin}
use Rattle.std.specs.Float.Ieee.{of_bits, to_bits, nan_bits, of_int, add, sub, mul, div, neg, is_nan, eq, ne, lt, le}
use Rattle.number.specs.F64.{−◌, 0f, ½f, 1f, 2f}
use Rattle.number.specs.Bytes.{bytes_of, number_of}
use Rattle.number.specs.Bits.{other_nan}
use Rattle.elementary.specs.Horner.{horner}
use Rattle.elementary.specs.Exact.{exp_turns, nearest, ten40, L40}
use Rattle.exponential.specs.Exp.{units, multiples, power_of_two, coefficients, rest_of, inside_of, exp_of}
use Rattle.root.specs.Root.{floor_root, nearest_root, units_of, root_of_units, root_of}
use Rattle.history.specs.Steps.{steps}
use Rattle.history.specs.Machine.{answer, gave, drew, whole}
use Rattle.history.specs.History.{framed, uncut, Call, give, draw, whole_frame, save, restore, resume, Told, told, answered}
use Rattle.noise.specs.Draw.{tries}
use Rattle.noise.specs.Noise.{fresh_random}
use Rattle.pulse.specs.Train.{train, start_of, pulse_of, end_of}
use Rattle.excitation.specs.Excitation.{plain_step, step_of}
use Rattle.vectors.specs.Vectors.{plus}
use Rattle.fir.specs.Fir.{fir_of}
use Rattle.mlsa.specs.declared.MelLogSpectrumApproximation.{MelLogSpectrumApproximation}
use Rattle.mlsa.specs.Mlsa.{weighed, first_row, second_row, downward, df1_of, df2_of, filter, df_of}
use Rattle.mglsa.specs.Mglsa.{fresh_rows}
use Rattle.filter.specs.Sample.{sample_by}
use Rattle.filter.specs.Zero.{gained}
use Rattle.cepstrum.specs.Cepstrum.{mc2b_of}
use Rattle.postfilter.specs.Mel.{postfilter_mcp_of}
use Rattle.prepare.specs.Preparing.{targets_mcp, prepared_mcp}
use Rattle.configuration.specs.declared.Configuration.{Configuration}
use Rattle.configuration.specs.Limits.{limits_kept}
use Rattle.voice.specs.declared.Voice.{Voice}
use Rattle.voice.specs.Voice.{none, at_rest, idle_voice, acceptable, idle}
use Rattle.voice.specs.Open.{open_number, opened_voice}
use Rattle.refusing.specs.Refusal.{Frame, frame, every, earlier}
use Rattle.giving.specs.Pitch.{pitch_of}
use Rattle.giving.specs.Begin.{prepared_for, increments_of}
use Rattle.giving.specs.Give.{prepared, refusal, begun, given}
use Rattle.drawing.specs.Draw.{voice_of}
use Rattle.drawing.specs.Step.{turn_of, step}
use Rattle.records.specs.Records.{numbered, encoded, values_in, in_order}
use Rattle.slots.specs.Slots.{values_of, count_of, configuration_in, pulse_in, random_in, zero_in, voice_with}
use Rattle.slots.specs.Sound.{one_form, sound}
use Rattle.rest.specs.Rest.{records_of, save_number, accepted, restored}
use Rattle.stream.specs.Stream.{voice_calls}

-- stage 0, nmcp 2, no taps, fperiod 2; every log pitch is clamped to 0, so that the period is the rate: 4
abbrev pub small : Configuration
small = record {
  nmcp = 2;
  nlpf = 0;
  stage = 0;
  log = false;
  rate = 4;
  alpha = 0f;
  beta = 0f;
  volume = 1f;
  fperiod = 2;
  nodata = 1f;
  low = 0f;
  high = 0f;
}

-- voiced frames: a zero spectrum, and one that is not
abbrev pub flat : Frame
flat = frame 0f (0f ∷ 0f ∷ []) []

abbrev pub sloped : Frame
sloped = frame 0f (0f ∷ 1f ∷ []) []

-- two frames, of which the second is flat; the records are 1,936 bytes
abbrev pub story : (first : Frame) → List (Call (voice_calls tries))
story first =
    give first
    ∷ give flat
    ∷ draw 1
    ∷ draw 0
    ∷ save 1935
    ∷ restore (7 ∷ [])
    ∷ resume 1936 idle_voice
    ∷ draw 9
    ∷ draw 9
    ∷ whole_frame flat 2
    ∷ []

-- ---- WHAT IT COMES TO

-- the samples: a pulse at the first and at the fourth
abbrev pub samples : List Float
samples = 2f ∷ 0f ∷ 0f ∷ 2f ∷ []

-- and what the filter makes of the first in between, where it is sloped
abbrev pub sloped_samples : List Float
sloped_samples = 2f ∷ fin false 9006102177871765 (negsuc 51) ∷ fin false 9005005234626501 (negsuc 52) ∷ fin false 4878776555528403 (negsuc 50) ∷ []

-- the voice afterwards: four samples drawn, none left, and the flat frame's coefficients reached, by these increments and with these taps
abbrev ended : (increments : List Float) → MelLogSpectrumApproximation → Voice
ended increments zero = record {
  configuration = small;
  meter = 4;
  left = 0;
  first = false;
  pulse = train (fin false 1 (pos 2)) 0f 0f (fin false 1 (pos 2));
  line = none;
  lpf = none;
  random = fresh_random;
  coefficients = none;
  increments = increments;
  targets = none;
  zero = zero;
  nonzero = fresh_rows;
}

abbrev pub end : Voice
end = ended none (filter (replicate 6 0f) (2f ∷ replicate 5 0f) (replicate 384 0f) (2f ∷ replicate 5 0f))

abbrev pub sloped_end : Voice
sloped_end =
    ended (0f ∷ − ½f ∷ replicate 62 0f)
    (filter
    (0f ∷ fin false 1254066080604101 (negsuc 51) ∷ fin false 9006102177871765 (negsuc 52) ∷ 2f ∷ replicate 2 0f)
    (fin false 4566555120087981 (negsuc 50) ∷ fin false 1254066080604101 (negsuc 52) ∷ fin false 9006102177871765 (negsuc 53) ∷ 1f ∷ replicate 2 0f)
    (0f ∷ fin false 9005005234626501 (negsuc 52) ∷ replicate 382 0f)
    (fin false 4878776555528403 (negsuc 50) ∷ replicate 5 0f))

-- the numbers answered
unfoldable pub numbers : List (Call (voice_calls tries)) → Voice → List ℕ
numbers [] v = []
numbers (c ∷ h) v = let a = answered (voice_calls tries) c v in a.number ∷ numbers h a.state

-- what a history comes to; its `unfolding` line names all that must be opened to compute one
unfoldable pub tale : List (Call (voice_calls tries)) → Voice → Told (voice_calls tries)
unfolding told answered gave drew whole steps refusal earlier idle acceptable at_rest limits_kept every given begun prepared prepared_for prepared_mcp targets_mcp postfilter_mcp_of mc2b_of pitch_of exp_of inside_of units multiples power_of_two coefficients rest_of horner exp_turns nearest ten40 L40 start_of increments_of step turn_of sample_by gained plain_step step_of pulse_of end_of plus df_of df1_of df2_of downward first_row second_row weighed fir_of root_of root_of_units units_of nearest_root floor_root save_number count_of records_of values_of numbered encoded bytes_of restored accepted values_in number_of in_order sound one_form other_nan configuration_in pulse_in random_in zero_in voice_with of_int of_bits to_bits nan_bits add sub mul div neg is_nan lt le eq ne
tale = told (voice_calls tries) (answered (voice_calls tries))

pub story_opened : open_number small ≡ 0
unfolding tale
story_opened = refl

pub story_numbers : numbers (story flat) (opened_voice small) ≡ 0 ∷ 3 ∷ 0 ∷ 0 ∷ 12 ∷ 13 ∷ 0 ∷ 0 ∷ 10 ∷ 0 ∷ []
unfolding numbers tale
story_numbers = refl

pub story_told : told (voice_calls tries) (answered (voice_calls tries)) (story flat) (opened_voice small) ≡ record { frames = flat ∷ flat ∷ []; made = samples; state = end }
unfolding tale
story_told = refl

pub sloped_told : told (voice_calls tries) (answered (voice_calls tries)) (story sloped) (opened_voice small) ≡ record { frames = sloped ∷ flat ∷ []; made = sloped_samples; state = sloped_end }
unfolding tale
sloped_told = refl

-- the frames, uncut: the same samples and the same voice
pub story_uncut : uncut (voice_of tries) (flat ∷ flat ∷ []) (opened_voice small) ≡ answer 0 samples end
unfolding uncut framed tale
story_uncut = refl

pub sloped_uncut : uncut (voice_of tries) (sloped ∷ flat ∷ []) (opened_voice small) ≡ answer 0 sloped_samples sloped_end
unfolding uncut framed tale
sloped_uncut = refl
