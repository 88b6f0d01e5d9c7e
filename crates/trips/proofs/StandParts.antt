-- The floats of sound slots: their bits come back, and the voice's values after the head stand where its floats were read. Assumes nothing.
use mathlib.Core.Path.{◌≡◌, refl, ◌∙◌, ap}
use mathlib.Core.Bool.{Bool, true, false, cond, ◌&&◌}
use mathlib.Core.List.{List, ◌++◌}
use Prim.Native.Nat.{ℕ, ◌+◌, ◌*◌, ◌^◌, ◌≤◌, ◌<◌}
use native.Mathlib.Omega.{arith}
use lib.Dec.{eqb}
use lib.Ieee.{Float}
use lib.ListN.{length, take, drop, replicate}
use Rattle.number.specs.F64.{0f}
use Rattle.number.proofs.Floats.{both_first, both_second}
use Rattle.refusing.specs.Refusal.{every}
use Rattle.mlsa.specs.declared.MelLogSpectrumApproximation.{MelLogSpectrumApproximation}
use Rattle.mlsa.specs.Mlsa.{fresh_filter}
use Rattle.mglsa.specs.declared.MelGeneralizedLogSpectrumApproximation.{MelGeneralizedLogSpectrumApproximation}
use Rattle.mglsa.specs.Mglsa.{fresh_rows}
use Rattle.configuration.specs.declared.Configuration.{Configuration}
use Rattle.voice.specs.Voice.{none, in_front}
use Rattle.slots.specs.Slots.{bits, excitation_values, spectrum_values, filter_values, slot_at, floats_at, random_in, zero_in, nonzero_in, voice_with, lpf_at, noise_at, queue_at, spectrum_at, filter_at}
use Rattle.slots.specs.Sound.{one_form, between, forms_kept}
use Rattle.reading.proofs.ReadLaws.{to_the_end}
use Rattle.reading.proofs.SoundLaws.{Room}
use Rattle.trips.proofs.StandLaws.{Back, range_back, Stands, stands_on, slot_stands, floats_stand, array_stands}

module _ (ws : List ℕ) (c : Configuration) where
  -- nmcp and nlpf, the rows of the other stages, and where the filter begins
  abbrev m : ℕ
  m = c.nmcp

  abbrev p : ℕ
  p = c.nlpf

  abbrev rows : ℕ
  rows = c.stage * m

  abbrev at : ℕ
  at = filter_at m p

  -- ---- the filter, by the test whether the stage is 0

  abbrev pub zero_by : Bool → MelLogSpectrumApproximation
  zero_by b = cond b (zero_in ws at m) fresh_filter

  abbrev pub nonzero_by : Bool → MelGeneralizedLogSpectrumApproximation
  nonzero_by b = cond b fresh_rows (nonzero_in ws at rows)

  -- its slots are the last
  abbrev pub EndsBy : Bool → Type 0
  EndsBy b = at + cond b (18 + 6 * m) rows ≡ length ws

  abbrev filter_by : Bool → List ℕ
  filter_by b =
      cond b
      (bits (zero_by b).d11 ++ (bits (zero_by b).d12 ++ (bits (zero_by b).d22 ++ bits (take (6 * m) (zero_by b).d21))))
      (bits (take rows (nonzero_by b).d))

  module _ (room : Room c (length ws)) where
    -- all parts before the filter are among the slots
    pub fits : at ≤ length ws
    fits = omega (arith, room.room)

    module _ (below : (i : ℕ) → slot_at ws i < 2 ^ 64) (forms : forms_kept p ws ≡ true) where
      -- ---- the four ranges of floats

      abbrev controls : Bool
      controls = every one_form (between 5 8 ws)

      abbrev pitches : Bool
      pitches = every one_form (between 9 12 ws)

      abbrev taps : Bool
      taps = every one_form (between 15 (noise_at p) ws)

      abbrev others : Bool
      others = every one_form (drop (queue_at p) ws)

      first_three : (controls && pitches && taps) ≡ true
      first_three = both_first (controls && pitches && taps) others forms

      first_two : (controls && pitches) ≡ true
      first_two = both_first (controls && pitches) taps first_three

      pub controls_back : Back ws 5 8
      controls_back = range_back ws 5 8 below (omega (arith, fits)) (both_first controls pitches first_two)

      pub pitches_back : Back ws 9 12
      pitches_back = range_back ws 9 12 below (omega (arith, fits)) (both_second controls pitches first_two)

      pub taps_back : Back ws 15 (noise_at p)
      taps_back = range_back ws 15 (noise_at p) below (omega (arith, fits)) (both_second (controls && pitches) taps first_three)

      others_back : Back ws (queue_at p) (length ws)
      others_back =
          range_back ws (queue_at p) (length ws) below (omega arith)
          (ap (every one_form) (to_the_end ws (queue_at p)) ∙ both_second (controls && pitches && taps) others forms)

      -- ---- part by part

      early : (a b : ℕ) → a + p ≡ b → 15 ≤ a → b ≤ noise_at p → Stands ws (bits (take p (in_front (floats_at ws a p) none))) a b
      early a b on low high = array_stands ws 15 (noise_at p) taps_back (omega (arith, fits)) a p b on low high none

      late : (n a b : ℕ) (array : List Float) → a + n ≡ b → queue_at p ≤ a → b ≤ length ws → Stands ws (bits (take n (in_front (floats_at ws a n) array))) a b
      late n a b array on low high = array_stands ws (queue_at p) (length ws) others_back (omega arith) a n b on low high array

      whole : (n a b : ℕ) → a + n ≡ b → queue_at p ≤ a → b ≤ length ws → Stands ws (bits (floats_at ws a n)) a b
      whole n a b on low high = floats_stand ws (queue_at p) (length ws) others_back (omega arith) a n b on low high

      pub excitation_stands : Stands ws (excitation_values (voice_with c ws)) 19 (spectrum_at p)
      unfolding voice_with random_in
      excitation_stands =
          let two : noise_at p + 1 + 1 ≡ queue_at p = omega arith in
          let enough : spectrum_at p ≤ length ws = omega (arith, fits) in
          stands_on ws (early 19 (lpf_at p) refl (omega arith) (omega arith))
          (stands_on ws (early (lpf_at p) (noise_at p) refl (omega arith) (omega arith))
          (slot_stands ws (omega arith) refl (slot_stands ws (omega arith) refl (rw two (whole 64 (queue_at p) (spectrum_at p) (omega arith) (omega arith) enough)))))

      pub spectrum_stands : Stands ws (spectrum_values (voice_with c ws)) (spectrum_at p) at
      unfolding voice_with
      spectrum_stands =
          let enough : at ≤ length ws = fits in
          stands_on ws (late m (spectrum_at p) (spectrum_at p + m) none refl (omega arith) (omega arith))
          (stands_on ws (late m (spectrum_at p + m) (spectrum_at p + m + m) none refl (omega arith) (omega arith))
          (late m (spectrum_at p + m + m) at none refl (omega arith) enough))

      filter_by_lem : (b : Bool) → EndsBy b → Stands ws (filter_by b) at (length ws)
      unfolding zero_in nonzero_in
      filter_by_lem true end =
          stands_on ws (whole 6 at (at + 6) refl (omega arith) (omega arith))
          (stands_on ws (whole 6 (at + 6) (at + 6 + 6) refl (omega arith) (omega arith))
          (stands_on ws (whole 6 (at + 6 + 6) (at + 6 + 6 + 6) refl (omega arith) (omega arith))
          (late (6 * m) (at + 6 + 6 + 6) (length ws) (replicate 384 0f) (omega arith) (omega arith) (omega arith))))
      filter_by_lem false end = late rows at (length ws) (replicate 512 0f) end (omega arith) (omega arith)

      pub filter_stands : Stands ws (filter_values (voice_with c ws)) at (length ws)
      unfolding voice_with
      filter_stands = filter_by_lem (eqb c.stage 0) room.room
