-- The values of a voice's slots have the one form of the NaN. Assumes nothing.
use mathlib.Core.Path.{◌≡◌, refl}
use mathlib.Core.Bool.{Bool, true, false, cond}
use mathlib.Core.List.{List, [], ◌∷◌, ◌++◌, append_assoc}
use Prim.Native.Nat.{ℕ, ◌+◌, ◌-◌, ◌*◌}
use native.Mathlib.Omega.{arith}
use lib.Dec.{eqb}
use lib.Ieee.{Float}
use lib.ListN.{length, take, drop, length-append}
use Rattle.configuration.specs.declared.Configuration.{Configuration}
use Rattle.configuration.specs.Limits.{limits_kept}
use Rattle.refusing.specs.Refusal.{every}
use Rattle.voice.specs.declared.Voice.{Voice}
use Rattle.slots.specs.Slots.{bits, filter_values, values_of, noise_at}
use Rattle.slots.specs.Sound.{one_form, between, forms_kept}
use Rattle.slots.proofs.CountLaws.{Long, line_count, lpf_count}
use Rattle.trips.proofs.PartLaws.{part_here, noise_on, queue_on, coefficients_on, increments_on, targets_on, from_queue}
use Rattle.trips.proofs.StayLaws.{Same, AllStay, front_stays, one_forms, every_both}

-- floats, or the front of an array of them, and more behind
module _ (xs : List Float) (rest : List ℕ) (stay : AllStay xs) (more : every one_form rest ≡ true) where
  then_forms : every one_form (bits xs ++ rest) ≡ true
  then_forms = every_both one_form (bits xs) rest (one_forms xs stay) more

module _ (n : ℕ) (array : List Float) (stay : AllStay array) where
  front_form : every one_form (bits (take n array)) ≡ true
  front_form = one_forms (take n array) (front_stays n array stay)

  front_forms : (rest : List ℕ) → every one_form rest ≡ true → every one_form (bits (take n array) ++ rest) ≡ true
  front_forms rest more = then_forms (take n array) rest (front_stays n array stay) more

module _ (v : Voice) (same : Same v) where
  abbrev c : Configuration
  c = v.configuration

  abbrev ws : List ℕ
  ws = values_of v

  -- alpha, beta, volume; no-data, low, high
  gains_form : every one_form (between 5 8 ws) ≡ true
  unfolding values_of
  gains_form = one_forms (c.alpha ∷ c.beta ∷ c.volume ∷ []) (λ i. same.alpha i ∷ same.beta i ∷ same.volume i ∷ [])

  pitches_form : every one_form (between 9 12 ws) ≡ true
  unfolding values_of
  pitches_form = one_forms (c.nodata ∷ c.low ∷ c.high ∷ []) (λ i. same.nodata i ∷ same.low i ∷ same.high i ∷ [])

  -- the filter, by the stage
  abbrev taps : List ℕ
  taps = bits (take (6 * c.nmcp) v.zero.d21)

  filter_form : every one_form (filter_values v) ≡ true
  filter_form = by_stage (eqb c.stage 0)
    where
      by_stage : (b : Bool) → every one_form (cond b (bits v.zero.d11 ++ (bits v.zero.d12 ++ (bits v.zero.d22 ++ taps))) (bits (take (c.stage * c.nmcp) v.nonzero.d))) ≡ true
      by_stage false = front_form (c.stage * c.nmcp) v.nonzero.d same.d
      by_stage true =
          let third = then_forms v.zero.d22 taps same.d22 (front_form (6 * c.nmcp) v.zero.d21 same.d21) in
          let second = then_forms v.zero.d12 (bits v.zero.d22 ++ taps) same.d12 third in
          then_forms v.zero.d11 (bits v.zero.d12 ++ (bits v.zero.d22 ++ taps)) same.d11 second

  -- the queue and all behind it
  queue_form : every one_form (queue_on v) ≡ true
  queue_form =
      let targets = front_forms c.nmcp v.targets same.targets (filter_values v) filter_form in
      let increments = front_forms c.nmcp v.increments same.increments (targets_on v) targets in
      let coefficients = front_forms c.nmcp v.coefficients same.coefficients (increments_on v) increments in
      then_forms v.random.queue (coefficients_on v) same.queue coefficients

  module _ (long : Long v) (kept : limits_kept v.configuration ≡ true) where
    -- the pulse train and the taps
    abbrev pulses : List Float
    pulses = v.pulse.pitch ∷ v.pulse.counter ∷ v.pulse.increment ∷ v.pulse.end ∷ []

    abbrev lines : List ℕ
    lines = bits (take c.nlpf v.line) ++ bits (take c.nlpf v.lpf)

    from_pulse : drop 15 ws ≡ (bits pulses ++ lines) ++ noise_on v
    unfolding values_of
    from_pulse = simp append_assoc

    taps_there : between 15 (noise_at c.nlpf) ws ≡ bits pulses ++ lines
    taps_there =
        let count : length lines ≡ c.nlpf + c.nlpf = rw (length-append, line_count v long kept, lpf_count v long kept) refl in
        part_here ws (bits pulses ++ lines) (noise_on v) 15 (noise_at c.nlpf - 15) from_pulse (omega arith)

    taps_form : every one_form (between 15 (noise_at c.nlpf) ws) ≡ true
    taps_form =
        let both = front_forms c.nlpf v.line same.line (bits (take c.nlpf v.lpf)) (front_form c.nlpf v.lpf same.lpf) in
        rw taps_there (then_forms pulses lines (λ i. same.pitch i ∷ same.counter i ∷ same.increment i ∷ same.end i ∷ []) both)

    pub forms_back : forms_kept c.nlpf ws ≡ true
    forms_back = rw (gains_form, pitches_form, taps_form, from_queue v long kept, queue_form) refl
