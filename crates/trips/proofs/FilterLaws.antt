-- The filters come back from the values of their slots. Assumes nothing.
use mathlib.Core.Path.{◌≡◌, sym, ◌∙◌}
use mathlib.Core.Bool.{Bool, true, false, cond}
use mathlib.Core.List.{List, [], ◌++◌, append-nil}
use Prim.Native.Nat.{ℕ, ◌+◌, ◌*◌}
use lib.Ieee.{Float}
use lib.ListN.{length, take, drop, replicate, length-map}
use Rattle.number.specs.F64.{0f}
use Rattle.number.specs.Bits.{bits_of}
use Rattle.mlsa.specs.Mlsa.{filter, fresh_filter}
use Rattle.mglsa.specs.Mglsa.{fresh_rows}
use Rattle.configuration.specs.declared.Configuration.{Configuration}
use Rattle.configuration.specs.Limits.{limits_kept}
use Rattle.voice.specs.declared.Voice.{Voice}
use Rattle.voice.specs.Voice.{in_front}
use Rattle.slots.specs.Slots.{bits, zero_in, nonzero_in}
use Rattle.trips.specs.Clean.{zeros_from}
use Rattle.slots.proofs.CountLaws.{Long, d21_count, d_count}
use Rattle.trips.proofs.PartLaws.{rest_after}
use Rattle.trips.proofs.StayLaws.{Same, front_stays, read_back}

-- from a place on, slots hold the filter of stage 0 or that of the others, as b says
module _ (v : Voice) (long : Long v) (kept : limits_kept v.configuration ≡ true) (same : Same v) (ws : List ℕ) (at : ℕ) where
  abbrev c : Configuration
  c = v.configuration

  abbrev taps : List ℕ
  taps = bits (take (6 * c.nmcp) v.zero.d21)

  abbrev rows : List ℕ
  rows = bits (take (c.stage * c.nmcp) v.nonzero.d)

  abbrev values : Bool → List ℕ
  values b = cond b (bits v.zero.d11 ++ (bits v.zero.d12 ++ (bits v.zero.d22 ++ taps))) rows

  six_count : (xs : List Float) → length xs ≡ 6 → length (bits xs) ≡ 6
  six_count xs e = length-map xs bits_of ∙ e

  pub zero_back : (b : Bool) → drop at ws ≡ values b
      → v.zero ≡ cond b (filter v.zero.d11 v.zero.d12 (zeros_from (6 * c.nmcp) 384 v.zero.d21) v.zero.d22) fresh_filter
      → cond b (zero_in ws at c.nmcp) fresh_filter ≡ v.zero
  unfolding zero_in
  zero_back false here clean = sym clean
  zero_back true here clean =
      let third = bits v.zero.d22 ++ taps in
      let second = bits v.zero.d12 ++ third in
      let six₁ = six_count v.zero.d11 long.d11 in
      let six₂ = six_count v.zero.d12 long.d12 in
      let six₃ = six_count v.zero.d22 long.d22 in
      let here₂ = rest_after ws (bits v.zero.d11) second at 6 here six₁ in
      let here₃ = rest_after ws (bits v.zero.d12) third (at + 6) 6 here₂ six₂ in
      let here₄ = rest_after ws (bits v.zero.d22) taps (at + 6 + 6) 6 here₃ six₃ in
      let d11 = read_back ws second at 6 v.zero.d11 here six₁ same.d11 in
      let d12 = read_back ws third (at + 6) 6 v.zero.d12 here₂ six₂ same.d12 in
      let d22 = read_back ws taps (at + 6 + 6) 6 v.zero.d22 here₃ six₃ same.d22 in
      let front = front_stays (6 * c.nmcp) v.zero.d21 same.d21 in
      let d21 = read_back ws [] (at + 6 + 6 + 6) (6 * c.nmcp) (take (6 * c.nmcp) v.zero.d21) (here₄ ∙ sym (append-nil taps)) (d21_count v long kept) front in
      (λ i. record { d11 = d11 i; d12 = d12 i; d22 = d22 i; d21 = in_front (d21 i) (replicate 384 0f) }) ∙ sym clean

  pub nonzero_back : (b : Bool) → drop at ws ≡ values b
      → v.nonzero ≡ cond b fresh_rows (record { d = zeros_from (c.stage * c.nmcp) 512 v.nonzero.d })
      → cond b fresh_rows (nonzero_in ws at (c.stage * c.nmcp)) ≡ v.nonzero
  unfolding nonzero_in
  nonzero_back true here clean = sym clean
  nonzero_back false here clean =
      let count = c.stage * c.nmcp in
      let d = read_back ws [] at count (take count v.nonzero.d) (here ∙ sym (append-nil rows)) (d_count v long kept) (front_stays count v.nonzero.d same.d) in
      (λ i. record { d = in_front (d i) (replicate 512 0f) }) ∙ sym clean
