-- The voice, fresh and idle. Assumes nothing.
use Rattle.std.specs.Prelude.{◌≡◌, refl, Bool, true, false, not, ◌&&◌, ◌||◌, List, ℕ, ◌+◌, ◌%◌, eqb, leb, length, replicate, Float}
use Rattle.std.specs.Float.Ieee.{of_bits, neg, lt, le}
use Rattle.number.specs.F64.{0f}
use Rattle.number.specs.Lists.{over}
use Rattle.pulse.specs.Train.{fresh_pulse}
use Rattle.noise.specs.declared.Random.{Random}
use Rattle.noise.specs.Noise.{fresh_random}
use Rattle.mlsa.specs.Mlsa.{fresh_filter}
use Rattle.mglsa.specs.Mglsa.{fresh_rows}
use Rattle.configuration.specs.declared.Configuration.{Configuration}
use Rattle.configuration.specs.Limits.{limits_kept, usual}
use Rattle.voice.specs.declared.Voice.{Voice}

-- ---- AT REST: every slot after the configuration is zero but the first flag and the noise

abbrev pub none : List Float
none = replicate 64 0f

unfoldable pub at_rest : Configuration → (first : Bool) → Random → Voice
at_rest configuration first random = record {
  configuration = configuration;
  meter = 0;
  left = 0;
  first = first;
  pulse = fresh_pulse;
  line = none;
  lpf = none;
  random = random;
  coefficients = none;
  increments = none;
  targets = none;
  zero = fresh_filter;
  nonzero = fresh_rows;
}

-- a fresh voice: the first flag 1, `next` 1, used 64
abbrev pub fresh_voice : Configuration → Voice
fresh_voice configuration = at_rest configuration true fresh_random

-- the idle voice of a refused open: every slot is zero
abbrev pub idle_voice : Voice
idle_voice = at_rest
    (record { nmcp = 0; nlpf = 0; stage = 0; log = false; rate = 0; alpha = 0f; beta = 0f; volume = 0f; fperiod = 0; nodata = 0f; low = 0f; high = 0f })
    false (record { next = 0; used = 0; queue = none })

-- xs in front of an array, and the rest of it as it was
abbrev pub in_front : List Float → List Float → List Float
in_front xs array = over xs (length xs) array

-- ---- IDLE: a voice whose values break restore's rules

-- the most that a meter comes to
abbrev pub most_meter : ℕ
most_meter = 9223372036854775807

-- limits kept; used at most 64; left at most fperiod; meter + left a multiple of fperiod, at most 2^63 - 1; with first flag 1, both 0
unfoldable pub acceptable : Configuration → (meter left : ℕ) (first : Bool) (used : ℕ) → Bool
acceptable c meter left first used =
    limits_kept c
    && leb left c.fperiod
    && leb (meter + left) most_meter
    && (leb used 64 && eqb ((meter + left) % c.fperiod) 0 && (not first || (eqb meter 0 && eqb left 0)))

unfoldable pub idle : Voice → Bool
idle v = not (acceptable v.configuration v.meter v.left v.first v.random.used)

-- ---- at computed points

pub fresh_not_idle : idle (fresh_voice usual) ≡ false
unfolding idle acceptable at_rest limits_kept of_bits neg lt le
fresh_not_idle = refl

pub refused_is_idle : idle idle_voice ≡ true
unfolding idle acceptable at_rest limits_kept
refused_is_idle = refl

-- fperiod is 80: 75 samples drawn and 5 left make a frame, 4 left do not; more than fperiod are never left
pub frame_whole : acceptable usual 75 5 false 64 ≡ true
unfolding acceptable limits_kept of_bits neg lt le
frame_whole = refl

pub frame_broken : acceptable usual 75 4 false 64 ≡ false
unfolding acceptable limits_kept of_bits neg lt le
frame_broken = refl

pub too_many_left : acceptable usual 79 81 false 64 ≡ false
unfolding acceptable limits_kept of_bits neg lt le
too_many_left = refl

-- a filling has 64 values; a first frame has none before it; the meter ends at 2^63 - 1
pub too_many_used : acceptable usual 80 0 false 65 ≡ false
unfolding acceptable limits_kept of_bits neg lt le
too_many_used = refl

pub first_with_meter : acceptable usual 80 0 true 64 ≡ false
unfolding acceptable limits_kept of_bits neg lt le
first_with_meter = refl

pub meter_beyond : acceptable usual 9223372036854775808 0 false 64 ≡ false
unfolding acceptable limits_kept of_bits neg lt le
meter_beyond = refl
