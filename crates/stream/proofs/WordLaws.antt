-- Floats that are f64 come back from their bits, and every slot of a voice is below 2^64. Assumes nothing.
use mathlib.Core.Path.{◌≡◌, refl, ◌∙◌, ap}
use mathlib.Core.Bool.{Bool, true, false}
use mathlib.Core.List.{List, [], ◌∷◌, ◌++◌, map}
use Prim.Native.Nat.{ℕ, zero, suc, ◌+◌, ◌*◌, ◌^◌, ◌≤◌, ◌<◌}
use native.Mathlib.Omega.{arith}
use lib.Dec.{lit<, eqb}
use lib.Ieee.{Float, binary64}
use lib.Ieee.Bits.{to_bits-lt}
use lib.ListN.{get_or, take}
use Rattle.number.specs.Bits.{bits_of, float_of}
use Rattle.number.proofs.BitLaws.{float_of_bits_of}
use Rattle.configuration.proofs.LimitsLaws.{Sizes, sizes}
use Rattle.voice.specs.declared.Voice.{Voice}
use Rattle.voice.specs.Voice.{acceptable, most_meter}
use Rattle.voice.proofs.IdleLaws.{kept_of, total_of, used_of}
use borrow.Author.Tests.{leb-true}
use Rattle.held.specs.Held.{Holds, AllHeld, Held}
use Rattle.held.proofs.OutcomesKeep.{either}
use Rattle.held.proofs.HeldLists.{held_take}
use Rattle.slots.specs.Slots.{bits, flag, head_values, excitation_values, spectrum_values, filter_values, values_of}
use Rattle.trips.proofs.StayLaws.{AllStay, Same}
use Rattle.stream.proofs.NextLaws.{Below}

-- ---- the bits of an f64

all_stay : (xs : List Float) → AllHeld xs → AllStay xs
all_stay [] h = refl
all_stay (x ∷ xs) h = ap (λ (y : Float). y ∷ map float_of (bits xs)) (float_of_bits_of x h.0) ∙ ap (λ (l : List Float). x ∷ l) (all_stay xs h.1)

pub same_of : (v : Voice) → Held v → Same v
same_of v h = record {
  alpha = float_of_bits_of v.configuration.alpha h.configuration.alpha;
  beta = float_of_bits_of v.configuration.beta h.configuration.beta;
  volume = float_of_bits_of v.configuration.volume h.configuration.volume;
  nodata = float_of_bits_of v.configuration.nodata h.configuration.nodata;
  low = float_of_bits_of v.configuration.low h.configuration.low;
  high = float_of_bits_of v.configuration.high h.configuration.high;
  pitch = float_of_bits_of v.pulse.pitch h.pulse.pitch;
  counter = float_of_bits_of v.pulse.counter h.pulse.counter;
  increment = float_of_bits_of v.pulse.increment h.pulse.increment;
  end = float_of_bits_of v.pulse.end h.pulse.end;
  line = all_stay v.line h.line;
  lpf = all_stay v.lpf h.lpf;
  queue = all_stay v.random.queue h.queue;
  coefficients = all_stay v.coefficients h.coefficients;
  increments = all_stay v.increments h.increments;
  targets = all_stay v.targets h.targets;
  d11 = all_stay v.zero.d11 h.zero.d11;
  d12 = all_stay v.zero.d12 h.zero.d12;
  d21 = all_stay v.zero.d21 h.zero.d21;
  d22 = all_stay v.zero.d22 h.zero.d22;
  d = all_stay v.nonzero.d h.nonzero;
}

-- ---- below 2^64

abbrev pub Words : List ℕ → Type 0
Words l = (i : ℕ) → Below (get_or l i 0)

none_words : Words []
none_words i = lit< tt

more_words : (n : ℕ) (l : List ℕ) → Below n → Words l → Words (n ∷ l)
more_words n l h k zero = h
more_words n l h k (suc i) = k i

abbrev AllBelow : List ℕ → Type 0
AllBelow [] = Unit {0}
AllBelow (n ∷ l) = Below n × AllBelow l

each_word : (l : List ℕ) → AllBelow l → Words l
each_word [] h = none_words
each_word (n ∷ l) h = more_words n l h.0 (each_word l h.1)

joined_words : (l m : List ℕ) → Words l → Words m → Words (l ++ m)
joined_words [] m h k = k
joined_words (n ∷ l) m h k = more_words n (l ++ m) (h 0) (joined_words l m (λ j. h (suc j)) k)

bits_below : (x : Float) → Holds x → Below (bits_of x)
bits_below x h = to_bits-lt binary64 x h

bits_words : (xs : List Float) → AllHeld xs → Words (bits xs)
bits_words [] h = none_words
bits_words (x ∷ xs) h = more_words (bits_of x) (bits xs) (bits_below x h.0) (bits_words xs h.1)

flag_below : (b : Bool) → Below (flag b)
flag_below true = lit< tt
flag_below false = lit< tt

small_below : (n m : ℕ) → n ≤ m → m < 2 ^ 64 → Below n
small_below n m h k = omega (arith, h, k)

-- every slot of a voice that is not idle
module _ (v : Voice) (h : Held v) (e : acceptable v.configuration v.meter v.left v.first v.random.used ≡ true) (next : Below v.random.next) where
  size : Sizes v.configuration
  size = sizes v.configuration (kept_of v.configuration v.meter v.left v.first v.random.used e)

  total : v.meter + v.left ≤ most_meter
  total = total_of v.configuration v.meter v.left v.first v.random.used e

  front_words : (n : ℕ) (xs : List Float) → AllHeld xs → Words (bits (take n xs))
  front_words n xs k = bits_words (take n xs) (held_take n xs k)

  head_words : Words (head_values v)
  head_words =
      let c = v.configuration in
      let meter_below : Below v.meter = omega (arith, total) in
      let left_below : Below v.left = omega (arith, total) in
      each_word (head_values v) (
        small_below c.nmcp 64 size.nmcp_most (lit< tt),
        (
          small_below c.nlpf 64 size.nlpf_most (lit< tt),
          (
            small_below c.stage 8 size.stage_most (lit< tt),
            (
              flag_below c.log,
              (
                small_below c.rate 192000 size.rate_most (lit< tt),
                (
                  bits_below c.alpha h.configuration.alpha,
                  (
                    bits_below c.beta h.configuration.beta,
                    (
                      bits_below c.volume h.configuration.volume,
                      (
                        small_below c.fperiod 4800 size.fperiod_most (lit< tt),
                        (
                          bits_below c.nodata h.configuration.nodata,
                          (
                            bits_below c.low h.configuration.low,
                            (
                              bits_below c.high h.configuration.high,
                              (
                                meter_below,
                                (
                                  left_below,
                                  (
                                    flag_below v.first,
                                    (
                                      bits_below v.pulse.pitch h.pulse.pitch,
                                      (
                                        bits_below v.pulse.counter h.pulse.counter,
                                        (bits_below v.pulse.increment h.pulse.increment, (bits_below v.pulse.end h.pulse.end, tt)),
                                      ),
                                    ),
                                  ),
                                ),
                              ),
                            ),
                          ),
                        ),
                      ),
                    ),
                  ),
                ),
              ),
            ),
          ),
        ),
      )

  excitation_words : Words (excitation_values v)
  excitation_words =
      let noise = v.random.next ∷ v.random.used ∷ bits v.random.queue in
      let taps = bits (take v.configuration.nlpf v.lpf) in
      let few = small_below v.random.used 64 (leb-true v.random.used 64 (used_of v.configuration v.meter v.left v.first v.random.used e)) (lit< tt) in
      joined_words (bits (take v.configuration.nlpf v.line)) (taps ++ noise) (front_words v.configuration.nlpf v.line h.line)
      (joined_words taps noise (front_words v.configuration.nlpf v.lpf h.lpf)
      (more_words v.random.next (v.random.used ∷ bits v.random.queue) next (more_words v.random.used (bits v.random.queue) few (bits_words v.random.queue h.queue))))

  spectrum_words : Words (spectrum_values v)
  spectrum_words =
      let increments = bits (take v.configuration.nmcp v.increments) in
      let targets = bits (take v.configuration.nmcp v.targets) in
      joined_words (bits (take v.configuration.nmcp v.coefficients)) (increments ++ targets) (front_words v.configuration.nmcp v.coefficients h.coefficients)
      (joined_words increments targets (front_words v.configuration.nmcp v.increments h.increments) (front_words v.configuration.nmcp v.targets h.targets))

  zero_words : Words (bits v.zero.d11 ++ (bits v.zero.d12 ++ (bits v.zero.d22 ++ bits (take (6 * v.configuration.nmcp) v.zero.d21))))
  zero_words =
      let rows = bits (take (6 * v.configuration.nmcp) v.zero.d21) in
      joined_words (bits v.zero.d11) (bits v.zero.d12 ++ (bits v.zero.d22 ++ rows)) (bits_words v.zero.d11 h.zero.d11)
      (joined_words (bits v.zero.d12) (bits v.zero.d22 ++ rows) (bits_words v.zero.d12 h.zero.d12)
      (joined_words (bits v.zero.d22) rows (bits_words v.zero.d22 h.zero.d22) (front_words (6 * v.configuration.nmcp) v.zero.d21 h.zero.d21)))

  filter_words : Words (filter_values v)
  filter_words =
      either Words (eqb v.configuration.stage 0)
      (bits v.zero.d11 ++ (bits v.zero.d12 ++ (bits v.zero.d22 ++ bits (take (6 * v.configuration.nmcp) v.zero.d21))))
      (bits (take (v.configuration.stage * v.configuration.nmcp) v.nonzero.d))
      zero_words (front_words (v.configuration.stage * v.configuration.nmcp) v.nonzero.d h.nonzero)

  pub values_words : Words (values_of v)
  unfolding values_of
  values_words =
      joined_words (head_values v) (excitation_values v ++ (spectrum_values v ++ filter_values v)) head_words
      (joined_words (excitation_values v) (spectrum_values v ++ filter_values v) excitation_words (joined_words (spectrum_values v) (filter_values v) spectrum_words filter_words))
