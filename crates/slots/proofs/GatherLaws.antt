-- The values of a voice's slots, stored one after the other. Assumes nothing.
use mathlib.Core.Path.{◌≡◌, refl, sym, ◌∙◌, ap}
use mathlib.Core.Bool.{true}
use mathlib.Core.List.{List, [], ◌∷◌, ◌++◌}
use Prim.Native.Nat.{ℕ, ◌+◌, ◌*◌}
use native.Mathlib.Omega.{arith}
use lib.ListN.{length, take, length-map}
use lib.Seq.{sets}
use lib.Ieee.{Float}
use borrow.Author.Tests.{eq-eqb}
use Rattle.number.specs.Lists.{row}
use Rattle.number.proofs.Lists.{sets_append}
use Rattle.configuration.specs.Limits.{limits_kept}
use Rattle.voice.specs.declared.Voice.{Voice}
use Rattle.voice.proofs.FrontLaws.{lent_front}
use Rattle.slots.specs.Slots.{bits, head_values, excitation_values, spectrum_values, filter_values, values_of, spectrum_at, filter_at}
use Rattle.slots.proofs.CountLaws.{Long, line_count, lpf_count, coefficients_count, increments_count, excitation_count, spectrum_count}

-- ---- calls that store, one after the other

-- ys where xs ended
pub onto : (w₀ w₁ w₂ xs ys : List ℕ) (a b : ℕ) → w₁ ≡ sets w₀ a xs → b ≡ a + length xs → w₂ ≡ sets w₁ b ys → w₂ ≡ sets w₀ a (xs ++ ys)
onto w₀ w₁ w₂ xs ys a b first there second = second ∙ rw (first, there) (sym (sets_append xs ys w₀ a))

-- the front of an array, lent and stored
pub front_stored : (w₀ w₁ : List ℕ) (a n : ℕ) (array : List Float) → w₁ ≡ sets w₀ a (bits (row 0 n array)) → w₁ ≡ sets w₀ a (bits (take n array))
front_stored w₀ w₁ a n array e = e ∙ ap (λ (xs : List Float). sets w₀ a (bits xs)) (lent_front n array)

-- ---- the parts of a voice, as the calls leave the slots

module _ (v : Voice) (long : Long v) (w₀ w₁ w₂ w₃ : List ℕ) where
  abbrev nlpf : ℕ
  nlpf = v.configuration.nlpf

  abbrev nmcp : ℕ
  nmcp = v.configuration.nmcp

  pub zero_stored : (w₄ : List ℕ) (at : ℕ) → v.configuration.stage ≡ 0
      → w₁ ≡ sets w₀ at (bits v.zero.d11)
      → w₂ ≡ sets w₁ (at + 6) (bits v.zero.d12)
      → w₃ ≡ sets w₂ (at + 6 + 6) (bits v.zero.d22)
      → w₄ ≡ sets w₃ (at + 6 + 6 + 6) (bits (row 0 (6 * nmcp) v.zero.d21))
      → w₄ ≡ sets w₀ at (filter_values v)
  zero_stored w₄ at stage d11 d12 d22 d21 =
      let rows = bits (take (6 * nmcp) v.zero.d21) in
      let third = bits v.zero.d22 in
      let second = bits v.zero.d12 in
      let last = front_stored w₃ w₄ (at + 6 + 6 + 6) (6 * nmcp) v.zero.d21 d21 in
      let later = onto w₂ w₃ w₄ third rows (at + 6 + 6) (at + 6 + 6 + 6) d22 (rw (length-map, long.d22) refl) last in
      let most = onto w₁ w₂ w₄ second (third ++ rows) (at + 6) (at + 6 + 6) d12 (rw (length-map, long.d12) refl) later in
      rw (eq-eqb v.configuration.stage 0 stage)
      (onto w₀ w₁ w₄ (bits v.zero.d11) (second ++ (third ++ rows)) at (at + 6) d11 (rw (length-map, long.d11) refl) most)

  module _ (kept : limits_kept v.configuration ≡ true) where
    pub spectrum_stored : (at : ℕ)
        → w₁ ≡ sets w₀ at (bits (row 0 nmcp v.coefficients))
        → w₂ ≡ sets w₁ (at + nmcp) (bits (row 0 nmcp v.increments))
        → w₃ ≡ sets w₂ (at + nmcp + nmcp) (bits (row 0 nmcp v.targets))
        → w₃ ≡ sets w₀ at (spectrum_values v)
    spectrum_stored at coefficients increments targets =
        let ends = bits (take nmcp v.targets) in
        let steps = bits (take nmcp v.increments) in
        let last = front_stored w₂ w₃ (at + nmcp + nmcp) nmcp v.targets targets in
        let later = onto w₁ w₂ w₃ steps ends (at + nmcp) (at + nmcp + nmcp) (front_stored w₁ w₂ (at + nmcp) nmcp v.increments increments) (rw (increments_count v long kept) refl) last in
        onto w₀ w₁ w₃ (bits (take nmcp v.coefficients)) (steps ++ ends) at (at + nmcp) (front_stored w₀ w₁ at nmcp v.coefficients coefficients) (rw (coefficients_count v long kept) refl) later

    pub excitation_stored : (w₄ : List ℕ)
        → w₁ ≡ sets w₀ 19 (bits (row 0 nlpf v.line))
        → w₂ ≡ sets w₁ (19 + nlpf) (bits (row 0 nlpf v.lpf))
        → w₃ ≡ sets w₂ (19 + nlpf + nlpf) (v.random.next ∷ v.random.used ∷ [])
        → w₄ ≡ sets w₃ (19 + nlpf + nlpf + 2) (bits v.random.queue)
        → w₄ ≡ sets w₀ 19 (excitation_values v)
    excitation_stored w₄ line lpf noise queue =
        let two = v.random.next ∷ v.random.used ∷ [] in
        let values = bits v.random.queue in
        let taps = bits (take nlpf v.lpf) in
        let last = onto w₂ w₃ w₄ two values (19 + nlpf + nlpf) (19 + nlpf + nlpf + 2) noise refl queue in
        let later = onto w₁ w₂ w₄ taps (two ++ values) (19 + nlpf) (19 + nlpf + nlpf) (front_stored w₁ w₂ (19 + nlpf) nlpf v.lpf lpf) (rw (lpf_count v long kept) refl) last in
        onto w₀ w₁ w₄ (bits (take nlpf v.line)) (taps ++ (two ++ values)) 19 (19 + nlpf) (front_stored w₀ w₁ 19 nlpf v.line line) (rw (line_count v long kept) refl) later

    -- all of them
    pub gathered : (w₄ : List ℕ)
        → w₁ ≡ sets w₀ 0 (head_values v)
        → w₂ ≡ sets w₁ 19 (excitation_values v)
        → w₃ ≡ sets w₂ (spectrum_at nlpf) (spectrum_values v)
        → w₄ ≡ sets w₃ (filter_at nmcp nlpf) (filter_values v)
        → w₄ ≡ sets w₀ 0 (values_of v)
    unfolding values_of
    gathered w₄ head excitation spectrum filter =
        let later = onto w₂ w₃ w₄ (spectrum_values v) (filter_values v) (spectrum_at nlpf) (filter_at nmcp nlpf) spectrum (rw (spectrum_count v long kept) (omega arith)) filter in
        let most = onto w₁ w₂ w₄ (excitation_values v) (spectrum_values v ++ filter_values v) 19 (spectrum_at nlpf) excitation (rw (excitation_count v long kept) (omega arith)) later in
        onto w₀ w₁ w₄ (head_values v) (excitation_values v ++ (spectrum_values v ++ filter_values v)) 0 19 head refl most
