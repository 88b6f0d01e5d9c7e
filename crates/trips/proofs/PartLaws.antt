-- Where each part of a voice lies among the values of its slots. Assumes nothing.
use mathlib.Core.Path.{◌≡◌, refl, sym, ◌∙◌}
use mathlib.Core.Bool.{true}
use mathlib.Core.List.{List, ◌∷◌, ◌++◌, append_assoc}
use Prim.Native.Nat.{ℕ, ◌+◌}
use native.Mathlib.Omega.{arith}
use lib.ListN.{length, take, drop, length-map}
use lib.Seq.{take_at, drop_at, drop-drop, get_or-drop}
use Rattle.number.specs.Bits.{bits_of}
use Rattle.configuration.specs.Limits.{limits_kept}
use Rattle.voice.specs.declared.Voice.{Voice}
use Rattle.slots.specs.Slots.{bits, filter_values, values_of, slot_at, lpf_at, noise_at, queue_at, spectrum_at, filter_at}
use Rattle.slots.proofs.CountLaws.{Long, line_count, lpf_count, coefficients_count, increments_count, targets_count}

-- xs from a on, and then the rest: so many are xs, and behind them is the rest
module _ (ws xs rest : List ℕ) (a n : ℕ) (here : drop a ws ≡ xs ++ rest) (size : length xs ≡ n) where
  pub part_here : take n (drop a ws) ≡ xs
  part_here = rw here (take_at xs rest n size)

  pub rest_after : drop (a + n) ws ≡ rest
  rest_after = sym (drop-drop n a ws) ∙ rw here (drop_at xs rest n size)

-- ---- the values from a part on

module _ (v : Voice) where
  abbrev nlpf : ℕ
  nlpf = v.configuration.nlpf

  abbrev nmcp : ℕ
  nmcp = v.configuration.nmcp

  abbrev pub targets_on : List ℕ
  targets_on = bits (take nmcp v.targets) ++ filter_values v

  abbrev pub increments_on : List ℕ
  increments_on = bits (take nmcp v.increments) ++ targets_on

  abbrev pub coefficients_on : List ℕ
  coefficients_on = bits (take nmcp v.coefficients) ++ increments_on

  abbrev pub queue_on : List ℕ
  queue_on = bits v.random.queue ++ coefficients_on

  abbrev pub noise_on : List ℕ
  noise_on = v.random.next ∷ v.random.used ∷ queue_on

  abbrev pub lpf_on : List ℕ
  lpf_on = bits (take nlpf v.lpf) ++ noise_on

  abbrev pub line_on : List ℕ
  line_on = bits (take nlpf v.line) ++ lpf_on

-- ---- each of them, where it begins

module _ (v : Voice) where
  abbrev ws : List ℕ
  ws = values_of v

  pub from_line : drop 19 ws ≡ line_on v
  unfolding values_of
  from_line = simp append_assoc

  module _ (long : Long v) (kept : limits_kept v.configuration ≡ true) where
    pub from_lpf : drop (lpf_at (nlpf v)) ws ≡ lpf_on v
    from_lpf = rest_after ws (bits (take (nlpf v) v.line)) (lpf_on v) 19 (nlpf v) from_line (line_count v long kept)

    pub from_noise : drop (noise_at (nlpf v)) ws ≡ noise_on v
    from_noise = rest_after ws (bits (take (nlpf v) v.lpf)) (noise_on v) (lpf_at (nlpf v)) (nlpf v) from_lpf (lpf_count v long kept)

    pub from_queue : drop (queue_at (nlpf v)) ws ≡ queue_on v
    from_queue = sym (drop-drop 2 (noise_at (nlpf v)) ws) ∙ rw from_noise refl

    pub from_coefficients : drop (spectrum_at (nlpf v)) ws ≡ coefficients_on v
    from_coefficients =
        let there : queue_at (nlpf v) + 64 ≡ spectrum_at (nlpf v) = omega arith in
        rw (← there) (rest_after ws (bits v.random.queue) (coefficients_on v) (queue_at (nlpf v)) 64 from_queue (length-map v.random.queue bits_of ∙ long.queue))

    pub from_increments : drop (spectrum_at (nlpf v) + nmcp v) ws ≡ increments_on v
    from_increments =
        rest_after ws (bits (take (nmcp v) v.coefficients)) (increments_on v) (spectrum_at (nlpf v)) (nmcp v) from_coefficients (coefficients_count v long kept)

    pub from_targets : drop (spectrum_at (nlpf v) + nmcp v + nmcp v) ws ≡ targets_on v
    from_targets =
        rest_after ws (bits (take (nmcp v) v.increments)) (targets_on v) (spectrum_at (nlpf v) + nmcp v) (nmcp v) from_increments (increments_count v long kept)

    pub from_filter : drop (filter_at (nmcp v) (nlpf v)) ws ≡ filter_values v
    from_filter =
        rest_after ws (bits (take (nmcp v) v.targets)) (filter_values v) (spectrum_at (nlpf v) + nmcp v + nmcp v) (nmcp v) from_targets (targets_count v long kept)

    -- the noise's `next` and used
    pub next_there : slot_at ws (noise_at (nlpf v)) ≡ v.random.next
    next_there =
        let there : noise_at (nlpf v) + 0 ≡ noise_at (nlpf v) = omega arith in
        rw (← there) (sym (get_or-drop (noise_at (nlpf v)) ws 0 0) ∙ rw from_noise refl)

    pub used_there : slot_at ws (noise_at (nlpf v) + 1) ≡ v.random.used
    used_there = sym (get_or-drop (noise_at (nlpf v)) ws 1 0) ∙ rw from_noise refl
