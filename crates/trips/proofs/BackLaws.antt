-- A voice comes back from the values of its slots, and they are sound. Assumes nothing.
use mathlib.Core.Path.{◌≡◌, refl, sym, ◌∙◌, ap}
use mathlib.Core.Bool.{Bool, true, false, not}
use mathlib.Core.List.{List, ◌++◌}
use Prim.Native.Nat.{ℕ, ◌+◌}
use lib.Dec.{eqb, leb}
use lib.Ieee.{Float, of_bits, to_bits, nan_bits, neg, lt, le}
use lib.ListN.{length, take, drop, length-map}
use borrow.Author.Tests.{eq-eqb}
use Rattle.number.specs.Bits.{bits_of, other_nan}
use Rattle.configuration.specs.declared.Configuration.{Configuration}
use Rattle.configuration.specs.Limits.{limits_kept, usual}
use Rattle.voice.specs.declared.Voice.{Voice}
use Rattle.refusing.specs.Refusal.{every}
use Rattle.voice.specs.Voice.{at_rest, fresh_voice, none, in_front, acceptable}
use Rattle.voice.proofs.IdleLaws.{kept_of}
use Rattle.slots.specs.Slots.{bits, flag, filter_values, values_of, array_at, configuration_in, lpf_at, noise_at, queue_at, spectrum_at, filter_at, pulse_in, random_in, zero_in, nonzero_in, voice_with, voice_in, count_of}
use Rattle.slots.specs.Sound.{one_form, flags_kept, rules_kept, sound}
use Rattle.trips.specs.Clean.{zeros_from, clean_zero, clean_nonzero, Clean}
use Rattle.slots.proofs.CountLaws.{Long, line_count, lpf_count, coefficients_count, increments_count, targets_count, length_values_of}
use Rattle.trips.proofs.PartLaws.{lpf_on, noise_on, coefficients_on, increments_on, targets_on, from_line, from_lpf, from_queue, from_coefficients, from_increments, from_targets, from_filter, next_there, used_there}
use Rattle.trips.proofs.StayLaws.{AllStay, front_stays, read_back}
pub use Rattle.trips.proofs.StayLaws.{Same}
use Rattle.trips.proofs.FilterLaws.{zero_back, nonzero_back}
use Rattle.trips.proofs.FormLaws.{forms_back}
use Rattle.reading.proofs.SoundLaws.{sound_where}

-- a flag is read as the bool that it was
pub flag_back : (b : Bool) → not (eqb (flag b) 0) ≡ b
flag_back true = refl
flag_back false = refl

-- ---- THE CONFIGURATION, field by field

pub configuration_back : (v : Voice) → Same v → configuration_in (values_of v) ≡ v.configuration
unfolding configuration_in values_of
configuration_back v same = λ i. record {
  nmcp = v.configuration.nmcp;
  nlpf = v.configuration.nlpf;
  stage = v.configuration.stage;
  log = flag_back v.configuration.log i;
  rate = v.configuration.rate;
  alpha = same.alpha i;
  beta = same.beta i;
  volume = same.volume i;
  fperiod = v.configuration.fperiod;
  nodata = same.nodata i;
  low = same.low i;
  high = same.high i;
}

-- ---- THE VOICE

module _ (v : Voice) (long : Long v) (kept : limits_kept v.configuration ≡ true) (same : Same v) where
  abbrev c : Configuration
  c = v.configuration

  abbrev ws : List ℕ
  ws = values_of v

  pulse_back : pulse_in ws ≡ v.pulse
  unfolding pulse_in values_of
  pulse_back = λ i. record { pitch = same.pitch i; counter = same.counter i; increment = same.increment i; end = same.end i }

  random_back : random_in ws (noise_at c.nlpf) ≡ v.random
  unfolding random_in
  random_back =
      let queue = read_back ws (coefficients_on v) (queue_at c.nlpf) 64 v.random.queue (from_queue v long kept) (length-map v.random.queue bits_of ∙ long.queue) same.queue in
      λ i. record { next = next_there v long kept i; used = used_there v long kept i; queue = queue i }

  -- an array whose front lies at a place, with zeros behind
  array_back : (array : List Float) (rest : List ℕ) (at n : ℕ) → drop at ws ≡ bits (take n array) ++ rest → length (bits (take n array)) ≡ n → AllStay array
      → array ≡ zeros_from n 64 array → array_at ws at n ≡ array
  array_back array rest at n here size stay clean =
      ap (λ (xs : List Float). in_front xs none) (read_back ws rest at n (take n array) here size (front_stays n array stay)) ∙ sym clean

  -- field by field
  with_back : Clean v → voice_with c ws ≡ v
  unfolding voice_with values_of clean_zero clean_nonzero
  with_back clean =
      let spectrum = spectrum_at c.nlpf in
      let at = filter_at c.nmcp c.nlpf in
      let line = array_back v.line (lpf_on v) 19 c.nlpf (from_line v) (line_count v long kept) same.line clean.line in
      let lpf = array_back v.lpf (noise_on v) (lpf_at c.nlpf) c.nlpf (from_lpf v long kept) (lpf_count v long kept) same.lpf clean.lpf in
      let coefficients = array_back v.coefficients (increments_on v) spectrum c.nmcp (from_coefficients v long kept) (coefficients_count v long kept) same.coefficients clean.coefficients in
      let increments = array_back v.increments (targets_on v) (spectrum + c.nmcp) c.nmcp (from_increments v long kept) (increments_count v long kept) same.increments clean.increments in
      let targets = array_back v.targets (filter_values v) (spectrum + c.nmcp + c.nmcp) c.nmcp (from_targets v long kept) (targets_count v long kept) same.targets clean.targets in
      let zero = zero_back v long kept same ws at (eqb c.stage 0) (from_filter v long kept) clean.zero in
      let nonzero = nonzero_back v long kept same ws at (eqb c.stage 0) (from_filter v long kept) clean.nonzero in
      λ i. record {
        configuration = c;
        meter = v.meter;
        left = v.left;
        first = flag_back v.first i;
        pulse = pulse_back i;
        line = line i;
        lpf = lpf i;
        random = random_back i;
        coefficients = coefficients i;
        increments = increments i;
        targets = targets i;
        zero = zero i;
        nonzero = nonzero i;
      }

pub voice_back : (v : Voice) → Long v → limits_kept v.configuration ≡ true → Clean v → Same v → voice_in (values_of v) ≡ v
voice_back v long kept clean same = ap (λ (k : Configuration). voice_with k (values_of v)) (configuration_back v same) ∙ with_back v long kept same clean

-- at a computed point: the fresh voice
pub fresh_back : voice_in (values_of (fresh_voice usual)) ≡ fresh_voice usual
unfolding voice_with configuration_in pulse_in random_in zero_in nonzero_in values_of at_rest of_bits to_bits
fresh_back = refl

-- ---- SOUND: the flags, the rules, and all

flag_small : (b : Bool) → leb (flag b) 1 ≡ true
flag_small true = refl
flag_small false = refl

flags_back : (v : Voice) → flags_kept (values_of v) ≡ true
unfolding values_of
flags_back v = rw (flag_small v.configuration.log, flag_small v.first) refl

rules_back : (v : Voice) → Long v → limits_kept v.configuration ≡ true
    → rules_kept v.configuration (values_of v) ≡ acceptable v.configuration v.meter v.left v.first v.random.used
unfolding values_of
rules_back v long kept = λ i. acceptable v.configuration v.meter v.left (flag_back v.first i) (used_there v long kept i)

pub sound_back : (v : Voice) → Long v → Same v → acceptable v.configuration v.meter v.left v.first v.random.used ≡ true → sound (values_of v) ≡ true
sound_back v long same e =
    let c = v.configuration in
    let kept = kept_of c v.meter v.left v.first v.random.used e in
    let count = eq-eqb (length (values_of v)) (count_of c) (length_values_of v long kept) in
    sym (sound_where (values_of v) c (sym (configuration_back v same)) count)
    ∙ rw (rules_back v long kept, e, flags_back v, forms_back v same long kept) refl

pub fresh_sound : sound (values_of (fresh_voice usual)) ≡ true
unfolding sound configuration_in count_of acceptable limits_kept every one_form other_nan nan_bits values_of at_rest of_bits to_bits neg lt le
fresh_sound = refl
