-- Document 01's limits. Assumes nothing.
use Rattle.std.specs.Prelude.{◌≡◌, refl, Bool, true, false, ◌&&◌, ℕ, leb, Float}
use Rattle.std.specs.Float.{binary64, nan}
use Rattle.std.specs.Float.Ieee.{of_bits, neg, le, lt}
use Rattle.number.specs.F64.{−◌, 0f, 1f}
use Rattle.number.specs.Range.{finite, is_within, is_strictly_within}
use Rattle.configuration.specs.declared.Configuration.{Configuration}

abbrev pub 20f : Float
20f = of_bits binary64 0x4034_0000_0000_0000

-- the limits of the whole numbers,
abbrev pub numbers_kept : Configuration → Bool
numbers_kept c =
    leb 2 c.nmcp && leb c.nmcp 64
    && leb c.nlpf 64
    && leb c.stage 8
    && leb 1 c.rate && leb c.rate 192000
    && leb 1 c.fperiod && leb c.fperiod 4800

-- and of the floats
abbrev pub floats_kept : Configuration → Bool
floats_kept c =
    is_strictly_within c.alpha (− 1f) 1f
    && is_within c.beta 0f 1f
    && finite c.volume
    && is_within c.low (− 20f) 20f
    && is_within c.high (− 20f) 20f
    && le c.low c.high
    && finite c.nodata

unfoldable pub limits_kept : Configuration → Bool
limits_kept c = numbers_kept c && floats_kept c

-- ---- at their ends

-- the configuration of an announcement
abbrev pub usual : Configuration
usual = record {
  nmcp = 25;
  nlpf = 31;
  stage = 0;
  log = false;
  rate = 16000;
  alpha = of_bits binary64 0x3fda_e147_ae14_7ae1;
  beta = 0f;
  volume = 1f;
  fperiod = 80;
  nodata = of_bits binary64 0xc202_a05f_2000_0000;
  low = of_bits binary64 0x4007_f742_7b73_e391;
  high = of_bits binary64 0x4023_ce95_eba4_f8b4;
}

-- nmcp and nlpf; alpha; low and high of the usual one
abbrev pub sized : ℕ → ℕ → Configuration
sized nmcp nlpf = record {
  nmcp = nmcp;
  nlpf = nlpf;
  stage = usual.stage;
  log = usual.log;
  rate = usual.rate;
  alpha = usual.alpha;
  beta = usual.beta;
  volume = usual.volume;
  fperiod = usual.fperiod;
  nodata = usual.nodata;
  low = usual.low;
  high = usual.high;
}

abbrev pub warped_by : Float → Float → Float → Configuration
warped_by alpha low high = record {
  nmcp = usual.nmcp;
  nlpf = usual.nlpf;
  stage = usual.stage;
  log = usual.log;
  rate = usual.rate;
  alpha = alpha;
  beta = usual.beta;
  volume = usual.volume;
  fperiod = usual.fperiod;
  nodata = usual.nodata;
  low = low;
  high = high;
}

pub usual_kept : limits_kept usual ≡ true
unfolding limits_kept of_bits neg lt le
usual_kept = refl

pub nmcp_least : limits_kept (sized 2 0) ≡ true
unfolding limits_kept of_bits neg lt le
nmcp_least = refl

pub nmcp_below : limits_kept (sized 1 0) ≡ false
unfolding limits_kept
nmcp_below = refl

pub nlpf_above : limits_kept (sized 64 65) ≡ false
unfolding limits_kept
nlpf_above = refl

-- alpha 1 is at its end, which does not count; low 20 and high 20 are at theirs, which do
pub alpha_end : limits_kept (warped_by 1f 0f 0f) ≡ false
unfolding limits_kept of_bits neg lt le
alpha_end = refl

pub low_end_lem : limits_kept (warped_by 0f 20f 20f) ≡ true
unfolding limits_kept of_bits neg lt le
low_end_lem = refl

-- low above high; a low that is no number
pub low_above_high : limits_kept (warped_by 0f 1f 0f) ≡ false
unfolding limits_kept of_bits neg lt le
low_above_high = refl

pub low_nan : limits_kept (warped_by 0f nan 1f) ≡ false
unfolding limits_kept of_bits neg lt le
low_nan = refl
