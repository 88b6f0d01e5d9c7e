-- Frames given at computed points. Assumes nothing.
use Rattle.std.specs.Prelude.{◌≡◌, refl, false, List, [], ◌∷◌, replicate, Float}
use Rattle.std.specs.Float.Ieee.{of_bits, of_int, add, sub, mul, div, neg, lt, le, eq, ne}
use Rattle.number.specs.F64.{0f, ½f, 1f, 2f}
use Rattle.pulse.specs.Train.{fresh_pulse, start_of}
use Rattle.noise.specs.Noise.{fresh_random}
use Rattle.mlsa.specs.Mlsa.{fresh_filter}
use Rattle.mglsa.specs.Mglsa.{fresh_rows}
use Rattle.cepstrum.specs.Cepstrum.{unwarped, mc2b_of}
use Rattle.postfilter.specs.Mel.{postfilter_mcp_of}
use Rattle.prepare.specs.Preparing.{targets_mcp, prepared_mcp}
use Rattle.configuration.specs.declared.Configuration.{Configuration}
use Rattle.configuration.specs.Limits.{limits_kept, usual}
use Rattle.voice.specs.Voice.{none, at_rest, fresh_voice, acceptable, idle}
use Rattle.refusing.specs.Refusal.{Frame, frame, every, earlier}
use Rattle.giving.specs.Pitch.{pitch_of}
use Rattle.giving.specs.Begin.{prepared_for, increments_of}
use Rattle.giving.specs.Give.{prepared, ◌otherwise◌, refusal, begun, given}

pub earlier_row_stands : 3 otherwise 9 ≡ 3
earlier_row_stands = refl

pub later_row_comes : 0 otherwise 9 ≡ 9
later_row_comes = refl

-- stage 0, nmcp 2, one tap, alpha 1/2, fperiod 2
abbrev small : Configuration
small = record {
  nmcp = 2;
  nlpf = 1;
  stage = 0;
  log = false;
  rate = 16000;
  alpha = ½f;
  beta = 0f;
  volume = 1f;
  fperiod = 2;
  nodata = usual.nodata;
  low = usual.low;
  high = usual.high;
}

-- an unvoiced frame
abbrev quiet : List Float → Frame
quiet spectrum = frame small.nodata spectrum (½f ∷ [])

-- accepted by a fresh voice, which then starts and stays at [0, 2], has two samples left and is no longer at its first frame
pub accepted_first : refusal (quiet (1f ∷ 2f ∷ [])) (fresh_voice small) ≡ 0
unfolding refusal earlier prepared prepared_for prepared_mcp targets_mcp postfilter_mcp_of mc2b_of unwarped idle acceptable at_rest limits_kept every of_bits add sub mul neg lt le eq ne
accepted_first = refl

pub first_given : given (quiet (1f ∷ 2f ∷ [])) (fresh_voice small) ≡ record {
  configuration = small;
  meter = 0;
  left = 2;
  first = false;
  pulse = fresh_pulse;
  line = none;
  lpf = ½f ∷ replicate 63 0f;
  random = fresh_random;
  coefficients = 0f ∷ 2f ∷ replicate 62 0f;
  increments = none;
  targets = 0f ∷ 2f ∷ replicate 62 0f;
  zero = fresh_filter;
  nonzero = fresh_rows;
}
unfolding given begun prepared prepared_for prepared_mcp targets_mcp postfilter_mcp_of mc2b_of unwarped pitch_of start_of increments_of at_rest of_int of_bits add sub mul div neg lt le eq ne
first_given = refl

-- refused, since it has three entries
pub refused_by_length : refusal (quiet (1f ∷ 2f ∷ 1f ∷ [])) (fresh_voice small) ≡ 4
unfolding refusal earlier idle acceptable at_rest limits_kept of_bits neg lt le
refused_by_length = refl
