-- Slots at computed points. Assumes nothing.
use Rattle.std.specs.Prelude.{◌≡◌, refl, Bool, true, false, List, [], ◌∷◌, ◌++◌, ℕ, ◌*◌, take, drop, replicate, set}
use Rattle.std.specs.Float.Ieee.{of_bits, to_bits, nan_bits, is_nan, neg, lt, le}
use Rattle.number.specs.Bits.{other_nan}
use Rattle.refusing.specs.Refusal.{every}
use Rattle.configuration.specs.declared.Configuration.{Configuration}
use Rattle.configuration.specs.Limits.{usual, limits_kept}
use Rattle.voice.specs.Voice.{at_rest, fresh_voice, acceptable}
use Rattle.slots.specs.Slots.{count_of, values_of, configuration_in}
use Rattle.slots.specs.Sound.{one_form, sound}

-- nmcp, nlpf and stage of the usual configuration changed
abbrev pub ordered : (nmcp nlpf stage : ℕ) → Configuration
ordered nmcp nlpf stage = record {
  nmcp = nmcp;
  nlpf = nlpf;
  stage = stage;
  log = usual.log;
  rate = usual.rate;
  alpha = usual.alpha;
  beta = usual.beta;
  volume = usual.volume;
  fperiod = usual.fperiod;
  nodata = usual.nodata;
  low = usual.low;
  high = usual.high;
}

-- 390 records of 16 bytes at nmcp 25, nlpf 31, stage 0; 917 at most
pub usual_count : count_of usual ≡ 390
unfolding count_of
usual_count = refl

pub usual_bytes : 16 * 390 ≡ 6240
usual_bytes = refl

pub most_count : count_of (ordered 64 64 8) ≡ 917
unfolding count_of
most_count = refl

pub most_bytes : 16 * 917 ≡ 14672
most_bytes = refl

-- A fresh voice: first flag 1, `next` 1, used 64, and every other slot after 11 is zero. Here two coefficients at stage 0 and no taps.
pub fresh_slots : drop 12 (values_of (fresh_voice (ordered 2 0 0))) ≡ 0 ∷ 0 ∷ 1 ∷ 0 ∷ 0 ∷ 0 ∷ 0 ∷ 1 ∷ 64 ∷ replicate 100 0
unfolding values_of at_rest of_bits to_bits
fresh_slots = refl

-- slots 0 to 11: two coefficients, no taps, stage 0, no log gain, 16,000 a second
pub first_slots : take 5 (values_of (fresh_voice (ordered 2 0 0))) ≡ 2 ∷ 0 ∷ 0 ∷ 0 ∷ 16000 ∷ []
unfolding values_of at_rest
first_slots = refl

-- the one NaN that is written, and another
pub quiet_kept : one_form 0x7ff8_0000_0000_0000 ≡ true
unfolding one_form other_nan nan_bits
quiet_kept = refl

pub payload_refused : one_form 0x7ff8_0000_0000_0001 ≡ false
unfolding one_form other_nan nan_bits
payload_refused = refl

-- ---- which values are a voice's: those of this fresh voice, and with one of restore's rules broken

abbrev pub fresh : List ℕ
fresh = values_of (fresh_voice (ordered 2 0 0))

-- with meter, left and first flag, of frames of 80 samples
abbrev pub counted : (meter left first : ℕ) → List ℕ
counted meter left first = set (set (set fresh 12 meter) 13 left) 14 first

unfoldable pub is_sound : List ℕ → Bool
unfolding sound values_of at_rest configuration_in limits_kept acceptable count_of every one_form other_nan nan_bits of_bits to_bits is_nan neg lt le
is_sound ws = sound ws

pub fresh_sound : is_sound fresh ≡ true
unfolding is_sound
fresh_sound = refl

pub used_65 : is_sound (set fresh 20 65) ≡ false
unfolding is_sound
used_65 = refl

pub whole_frames : is_sound (counted 100 60 0) ≡ true
unfolding is_sound
whole_frames = refl

pub part_of_a_frame : is_sound (counted 100 61 0) ≡ false
unfolding is_sound
part_of_a_frame = refl

pub first_with_a_meter : is_sound (counted 100 60 1) ≡ false
unfolding is_sound
first_with_a_meter = refl

pub one_too_many : is_sound (fresh ++ (0 ∷ [])) ≡ false
unfolding is_sound
one_too_many = refl

pub no_flag : is_sound (set fresh 3 2) ≡ false
unfolding is_sound
no_flag = refl

pub other_nan_lem : is_sound (set fresh 15 0x7ff8_0000_0000_0001) ≡ false
unfolding is_sound
other_nan_lem = refl
