-- How many slots a voice has. Assumes nothing.
use mathlib.Core.Path.{◌≡◌, refl, ◌∙◌}
use mathlib.Core.Bool.{Bool, true, false, cond}
use mathlib.Core.List.{List, ◌++◌}
use Prim.Native.Nat.{ℕ, ◌+◌, ◌*◌, ◌≤◌}
use native.Mathlib.Nat.{mul-le-mul}
use native.Mathlib.Omega.{arith}
use lib.Dec.{eqb}
use lib.ListN.{length, take, length-append, length-map}
use lib.Seq.{length-take-le}
use lib.Ieee.{Float}
use mir.Val.{Val}
use denote.Laws.{Is}
use denote.Struct.Declared.{row}
use Rattle.number.specs.Bits.{bits_of}
use Rattle.configuration.specs.declared.Configuration.{Configuration}
use Rattle.configuration.specs.Limits.{limits_kept}
use Rattle.configuration.proofs.LimitsLaws.{sizes}
use Rattle.voice.specs.declared.Voice.{Voice}
use Rattle.voice.specs.contracts.Voice.{the_type}
use Rattle.slots.specs.Slots.{bits, head_values, excitation_values, spectrum_values, filter_values, filter_count, values_of, count_of}

-- ---- by the configuration

module _ (c : Configuration) where
  -- all, part by part
  pub count_parts : count_of c ≡ 19 + c.nlpf + c.nlpf + 66 + c.nmcp + c.nmcp + c.nmcp + filter_count c
  unfolding count_of
  count_parts = by_stage (eqb c.stage 0)
    where
      by_stage : (b : Bool) → cond b (103 + 2 * c.nlpf + 9 * c.nmcp) (85 + 2 * c.nlpf + (3 + c.stage) * c.nmcp)
          ≡ 19 + c.nlpf + c.nlpf + 66 + c.nmcp + c.nmcp + c.nmcp + cond b (18 + 6 * c.nmcp) (c.stage * c.nmcp)
      by_stage true = omega arith
      by_stage false = omega arith

  module _ (kept : limits_kept c ≡ true) where
    -- at most 8 rows of 64
    pub rows_most : c.stage * c.nmcp ≤ 512
    rows_most = mul-le-mul (sizes c kept).stage_most (sizes c kept).nmcp_most

    filter_most : filter_count c ≤ 512
    filter_most = by_stage (eqb c.stage 0)
      where
        by_stage : (b : Bool) → cond b (18 + 6 * c.nmcp) (c.stage * c.nmcp) ≤ 512
        by_stage true = omega (arith, (sizes c kept).nmcp_most)
        by_stage false = rows_most

    pub count_most : count_of c ≤ 917
    count_most = omega (arith, count_parts, filter_most, (sizes c kept).nmcp_most, (sizes c kept).nlpf_most)

    pub count_least : 85 ≤ count_of c
    count_least = omega (arith, count_parts)

-- ---- by the voice

-- the floats in front of an array
pub front_count : (n : ℕ) (array : List Float) → n ≤ length array → length (bits (take n array)) ≡ n
front_count n array h = length-map (take n array) bits_of ∙ length-take-le n array h

-- the lengths of a voice's arrays
pub record Long (v : Voice) : Type 0 where
  pub line : length v.line ≡ 64
  pub lpf : length v.lpf ≡ 64
  pub queue : length v.random.queue ≡ 64
  pub coefficients : length v.coefficients ≡ 64
  pub increments : length v.increments ≡ 64
  pub targets : length v.targets ≡ 64
  pub d11 : length v.zero.d11 ≡ 6
  pub d12 : length v.zero.d12 ≡ 6
  pub d21 : length v.zero.d21 ≡ 384
  pub d22 : length v.zero.d22 ≡ 6
  pub d : length v.nonzero.d ≡ 512

-- a voice that is held has them: what stands for field 5 is .1 five times, then .0
pub held_long : (v : Voice) (vs : List Val) → Is (row the_type) v vs → Long v
held_long v vs held =
    let arrays = held.1.1.1.1.1.1.1 in
    let random = arrays.1.1.0.1.1 in
    let zero = arrays.1.1.1.1.1.1.0.1.1 in
    let nonzero = arrays.1.1.1.1.1.1.1.0.1.1 in
    record {
      line = arrays.0.1.0.1;
      lpf = arrays.1.0.1.0.1;
      queue = random.1.1.0.1.0.1;
      coefficients = arrays.1.1.1.0.1.0.1;
      increments = arrays.1.1.1.1.0.1.0.1;
      targets = arrays.1.1.1.1.1.0.1.0.1;
      d11 = zero.0.1.0.1;
      d12 = zero.1.0.1.0.1;
      d21 = zero.1.1.0.1.0.1;
      d22 = zero.1.1.1.0.1.0.1;
      d = nonzero.0.1.0.1;
    }

module _ (v : Voice) (long : Long v) (kept : limits_kept v.configuration ≡ true) where
  abbrev c : Configuration
  c = v.configuration

  -- in use are no more than there are
  taps : c.nlpf ≤ 64
  taps = (sizes c kept).nlpf_most

  entries : c.nmcp ≤ 64
  entries = (sizes c kept).nmcp_most

  pub line_count : length (bits (take c.nlpf v.line)) ≡ c.nlpf
  line_count = front_count c.nlpf v.line (omega (arith, long.line, taps))

  pub lpf_count : length (bits (take c.nlpf v.lpf)) ≡ c.nlpf
  lpf_count = front_count c.nlpf v.lpf (omega (arith, long.lpf, taps))

  pub coefficients_count : length (bits (take c.nmcp v.coefficients)) ≡ c.nmcp
  coefficients_count = front_count c.nmcp v.coefficients (omega (arith, long.coefficients, entries))

  pub increments_count : length (bits (take c.nmcp v.increments)) ≡ c.nmcp
  increments_count = front_count c.nmcp v.increments (omega (arith, long.increments, entries))

  pub targets_count : length (bits (take c.nmcp v.targets)) ≡ c.nmcp
  targets_count = front_count c.nmcp v.targets (omega (arith, long.targets, entries))

  pub d21_count : length (bits (take (6 * c.nmcp) v.zero.d21)) ≡ 6 * c.nmcp
  d21_count = front_count (6 * c.nmcp) v.zero.d21 (omega (arith, long.d21, entries))

  pub d_count : length (bits (take (c.stage * c.nmcp) v.nonzero.d)) ≡ c.stage * c.nmcp
  d_count = front_count (c.stage * c.nmcp) v.nonzero.d (omega (arith, long.d, rows_most c kept))

  pub excitation_count : length (excitation_values v) ≡ c.nlpf + (c.nlpf + 66)
  excitation_count = rw (length-append, line_count, length-append, lpf_count, length-map, long.queue) refl

  pub spectrum_count : length (spectrum_values v) ≡ c.nmcp + (c.nmcp + c.nmcp)
  spectrum_count = rw (length-append, coefficients_count, length-append, increments_count, targets_count) refl

  pub filter_count_lem : length (filter_values v) ≡ filter_count c
  filter_count_lem = by_stage (eqb c.stage 0)
    where
      by_stage : (b : Bool)
          → length (cond b (bits v.zero.d11 ++ (bits v.zero.d12 ++ (bits v.zero.d22 ++ bits (take (6 * c.nmcp) v.zero.d21)))) (bits (take (c.stage * c.nmcp) v.nonzero.d)))
          ≡ cond b (18 + 6 * c.nmcp) (c.stage * c.nmcp)
      by_stage true = rw (length-append, length-append, length-append, d21_count, length-map, length-map, length-map, long.d11, long.d12, long.d22) (omega arith)
      by_stage false = d_count

  pub length_values_of : length (values_of v) ≡ count_of c
  unfolding values_of
  length_values_of =
      rw (length-append (head_values v), length-append (excitation_values v), excitation_count, length-append (spectrum_values v), spectrum_count, filter_count_lem) (omega (arith, count_parts c))
