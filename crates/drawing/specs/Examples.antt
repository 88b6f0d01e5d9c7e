-- Draws at computed points. Assumes nothing.
use Rattle.std.specs.Prelude.{◌≡◌, refl, false, List, [], ◌∷◌, ◌++◌, ℕ, pos, replicate, Float}
use Rattle.std.specs.Float.{binary64}
use Rattle.std.specs.Float.Ieee.{of_bits, of_int, add, sub, mul, neg, eq, ne, lt, le}
use Rattle.number.specs.F64.{0f, ½f, 1f, 2f}
use Rattle.root.specs.Root.{floor_root, nearest_root, units_of, root_of_units, root_of}
use Rattle.history.specs.Steps.{steps}
use Rattle.history.specs.Through.{passage, through}
use Rattle.history.specs.Machine.{answer, drew}
use Rattle.noise.specs.declared.Random.{Random}
use Rattle.noise.specs.Noise.{found_of, pair_of, filling_of, noise_of, fresh_random}
use Rattle.pulse.specs.declared.Pulse.{Pulse}
use Rattle.pulse.specs.Train.{train, pulse_of, end_of}
use Rattle.excitation.specs.Excitation.{plain_step, step_of}
use Rattle.vectors.specs.Vectors.{plus}
use Rattle.mlsa.specs.Mlsa.{fresh_filter}
use Rattle.mglsa.specs.Mglsa.{warp_at, warps, warped, pushed, dff_of, stage_of, stages_from, df_of}
use Rattle.filter.specs.Sample.{sample_by}
use Rattle.configuration.specs.declared.Configuration.{Configuration}
use Rattle.configuration.specs.Limits.{limits_kept, usual}
use Rattle.voice.specs.declared.Voice.{Voice}
use Rattle.voice.specs.Voice.{none, acceptable, idle}
use Rattle.drawing.specs.Step.{turn_of, step, filtered}
use Rattle.drawing.specs.Finish.{pulse_at_end, entries_at_end, ended}
use Rattle.drawing.specs.Draw.{voice_of, placed}

-- numbers as floats
abbrev 3f : Float
3f = of_int binary64 (pos 3)

abbrev 4f : Float
4f = of_int binary64 (pos 4)

abbrev 5f : Float
5f = of_int binary64 (pos 5)

-- stage 1, nmcp 2, no taps, alpha 0, fperiod 3
abbrev small : Configuration
small = record {
  nmcp = 2;
  nlpf = 0;
  stage = 1;
  log = false;
  rate = 16000;
  alpha = 0f;
  beta = 0f;
  volume = 1f;
  fperiod = 3;
  nodata = usual.nodata;
  low = usual.low;
  high = usual.high;
}

-- in the middle of a frame, with so many samples drawn and left, a pulse train, a noise, two coefficients and two taps of the filter
abbrev midway : (meter left : ℕ) → Pulse → Random → (c d : List Float) → Voice
midway meter left pulse random c d = record {
  configuration = small;
  meter = meter;
  left = left;
  first = false;
  pulse = pulse;
  line = none;
  lpf = none;
  random = random;
  coefficients = c ++ replicate 62 0f;
  increments = 1f ∷ replicate 63 0f;
  targets = 5f ∷ replicate 63 0f;
  zero = fresh_filter;
  nonzero = record { d = d ++ replicate 510 0f };
}

-- pitch 4 and 3 counted: two samples of three, a pulse of height 2 and none; the first coefficient goes up by 1 each time
pub first_two : drew (voice_of 0) 2 (midway 3 3 (train 4f 3f 0f 2f) fresh_random (1f ∷ 0f ∷ []) (0f ∷ 0f ∷ []))
    ≡ answer 0 (2f ∷ 0f ∷ []) (midway 5 1 (train 4f 1f 0f 2f) fresh_random (3f ∷ 0f ∷ []) (0f ∷ 2f ∷ []))
unfolding drew steps step turn_of sample_by idle acceptable limits_kept plain_step step_of pulse_of plus warp_at warps warped pushed dff_of stage_of stages_from df_of root_of root_of_units units_of nearest_root floor_root of_int of_bits add sub mul neg ne eq le lt
first_two = refl

-- the last sample: `end` makes the pitch 2, and the coefficients are at their targets
pub the_last : drew (voice_of 0) 9 (midway 5 1 (train 4f 1f 0f 2f) fresh_random (3f ∷ 0f ∷ []) (0f ∷ 2f ∷ []))
    ≡ answer 0 (0f ∷ []) (midway 6 0 (train 2f 2f 0f 2f) fresh_random (5f ∷ 0f ∷ []) (0f ∷ 0f ∷ []))
unfolding drew steps step turn_of sample_by idle acceptable limits_kept plain_step step_of pulse_of end_of plus warp_at warps warped pushed dff_of stage_of stages_from df_of root_of root_of_units units_of nearest_root floor_root of_int of_bits add sub mul neg ne eq le lt
the_last = refl

-- the pulse train and the coefficients where no sample is left, and where one is
abbrev at_end : ℕ → Voice
at_end left = midway 6 left (train 4f 2f 0f 2f) fresh_random (3f ∷ 0f ∷ []) (0f ∷ 2f ∷ [])

pub pulse_ends : pulse_at_end (at_end 0) ≡ train 2f 2f 0f 2f
unfolding end_of
pulse_ends = refl

pub pulse_goes_on : pulse_at_end (at_end 1) ≡ train 4f 2f 0f 2f
pulse_goes_on = refl

pub entries_at_targets : entries_at_end (at_end 0) (3f ∷ 0f ∷ []) ≡ 5f ∷ 0f ∷ []
entries_at_targets = refl

pub entries_stay : entries_at_end (at_end 1) (3f ∷ 0f ∷ []) ≡ 3f ∷ 0f ∷ []
entries_stay = refl

-- what is left to do of that sample once its excitation is made and counted, and of one after which two are left
pub last_ended : ended (midway 6 0 (train 4f 2f 0f 2f) fresh_random (3f ∷ 0f ∷ []) (0f ∷ 2f ∷ [])) (0f ∷ [])
    ≡ passage (0f ∷ []) (midway 6 0 (train 2f 2f 0f 2f) fresh_random (5f ∷ 0f ∷ []) (0f ∷ 0f ∷ []))
unfolding ended filtered through turn_of sample_by end_of plus warp_at warps warped pushed dff_of stage_of stages_from df_of of_int of_bits add sub mul neg ne eq le lt
last_ended = refl

pub first_not_ended : ended (midway 4 2 (train 4f 0f 0f 2f) fresh_random (1f ∷ 0f ∷ []) (0f ∷ 0f ∷ [])) (2f ∷ [])
    ≡ passage (2f ∷ []) (midway 4 2 (train 4f 0f 0f 2f) fresh_random (2f ∷ 0f ∷ []) (2f ∷ 0f ∷ []))
unfolding ended filtered through turn_of sample_by end_of plus warp_at warps warped pushed dff_of stage_of stages_from df_of of_int of_bits add sub mul neg ne eq le lt
first_not_ended = refl

-- unvoiced, one value of the noise left, and no try for more: one sample, then dry, with the voice as after it; and dry at once, with the voice as it was
abbrev left_over : ℕ → Random
left_over used = record { next = 7; used = used; queue = replicate 63 0f ++ (½f ∷ []) }

pub dry_after_one : drew (voice_of 0) 9 (midway 3 3 (train 0f 0f 0f 0f) (left_over 63) (2f ∷ 0f ∷ []) (0f ∷ 0f ∷ []))
    ≡ answer 11 (1f ∷ []) (midway 4 2 (train 0f 0f 0f 0f) (left_over 64) (3f ∷ 0f ∷ []) (1f ∷ 0f ∷ []))
unfolding drew steps step turn_of sample_by idle acceptable limits_kept plain_step step_of noise_of filling_of pair_of found_of plus warp_at warps warped pushed dff_of stage_of stages_from df_of of_int of_bits add sub mul neg ne eq le lt
dry_after_one = refl

pub dry_at_once : drew (voice_of 0) 9 (midway 4 2 (train 0f 0f 0f 0f) (left_over 64) (3f ∷ 0f ∷ []) (1f ∷ 0f ∷ []))
    ≡ answer 11 [] (midway 4 2 (train 0f 0f 0f 0f) (left_over 64) (3f ∷ 0f ∷ []) (1f ∷ 0f ∷ []))
unfolding drew steps step idle acceptable limits_kept plain_step step_of noise_of filling_of pair_of found_of of_int of_bits add sub mul neg ne eq le lt
dry_at_once = refl

-- the place of two samples in a buffer of five
pub in_the_middle : placed 1 (1f ∷ 2f ∷ []) (5f ∷ 5f ∷ 5f ∷ 5f ∷ 5f ∷ []) ≡ 5f ∷ 1f ∷ 2f ∷ 5f ∷ 5f ∷ []
in_the_middle = refl

pub past_the_end : placed 9 [] (5f ∷ 5f ∷ []) ≡ 5f ∷ 5f ∷ []
past_the_end = refl
