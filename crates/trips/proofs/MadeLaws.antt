-- The voice that slots make: its arrays have their lengths, and what no slot saves is clean. Assumes nothing.
use mathlib.Core.Path.{◌≡◌, refl, sym, ap}
use mathlib.Core.Bool.{Bool, true, false, cond}
use mathlib.Core.List.{List}
use Prim.Native.Nat.{ℕ, ◌+◌, ◌*◌, ◌≤◌}
use native.Mathlib.Omega.{arith}
use lib.Dec.{eqb}
use lib.Ieee.{Float}
use lib.ListN.{length, take, replicate, length-replicate}
use Rattle.number.specs.F64.{0f}
use Rattle.number.proofs.Lists.{length_over}
use Rattle.mlsa.specs.declared.MelLogSpectrumApproximation.{MelLogSpectrumApproximation}
use Rattle.mlsa.specs.Mlsa.{filter, fresh_filter}
use Rattle.mglsa.specs.Mglsa.{fresh_rows}
use Rattle.configuration.specs.declared.Configuration.{Configuration}
use Rattle.voice.specs.Voice.{none, in_front}
use Rattle.voice.proofs.FrontLaws.{front_of}
use Rattle.slots.specs.Slots.{floats_at, random_in, zero_in, nonzero_in, voice_with, lpf_at, noise_at, spectrum_at, filter_at}
use Rattle.trips.specs.Clean.{zeros_from, clean_zero, clean_nonzero, Clean}
use Rattle.slots.proofs.CountLaws.{Long, rows_most}
use Rattle.reading.proofs.ReadLaws.{length_read}
use Rattle.reading.proofs.SoundLaws.{Room}
use Rattle.trips.proofs.StandParts.{zero_by, nonzero_by, EndsBy, fits}

-- floats in front of an array
module _ (ws : List ℕ) (array : List Float) (at n : ℕ) (fits : at + n ≤ length ws) where
  abbrev made : List Float
  made = in_front (floats_at ws at n) array

  made_clean : made ≡ in_front (take n made) array
  made_clean = ap (λ (xs : List Float). in_front xs array) (sym (front_of n array (floats_at ws at n) (length_read ws at n fits)))

  made_long : n ≤ length array → length made ≡ length array
  made_long h =
      let few : length (floats_at ws at n) ≤ length array = rw (length_read ws at n fits) h in
      length_over (floats_at ws at n) array (length (floats_at ws at n)) refl few

module _ (ws : List ℕ) (c : Configuration) (room : Room c (length ws)) where
  -- in use are no more than an array has
  entries : c.nmcp ≤ length none
  entries = rw (length-replicate 64 0f) room.nmcp

  taps : c.nlpf ≤ length none
  taps = rw (length-replicate 64 0f) room.nlpf

  -- ---- the filters, by the test whether the stage is 0

  abbrev at : ℕ
  at = filter_at c.nmcp c.nlpf

  zero_clean : (b : Bool) → EndsBy ws c b
      → zero_by ws c b ≡ cond b (filter (zero_by ws c b).d11 (zero_by ws c b).d12 (zeros_from (6 * c.nmcp) 384 (zero_by ws c b).d21) (zero_by ws c b).d22) fresh_filter
  unfolding zero_in
  zero_clean true e =
      ap (λ (xs : List Float). filter (floats_at ws at 6) (floats_at ws (at + 6) 6) xs (floats_at ws (at + 6 + 6) 6))
      (made_clean ws (replicate 384 0f) (at + 6 + 6 + 6) (6 * c.nmcp) (omega arith))
  zero_clean false e = refl

  nonzero_clean : (b : Bool) → EndsBy ws c b → nonzero_by ws c b ≡ cond b fresh_rows (record { d = zeros_from (c.stage * c.nmcp) 512 (nonzero_by ws c b).d })
  unfolding nonzero_in
  nonzero_clean true e = refl
  nonzero_clean false e = ap (λ (xs : List Float). record { d = xs }) (made_clean ws (replicate 512 0f) at (c.stage * c.nmcp) (omega arith))

  record LongZero (f : MelLogSpectrumApproximation) : Type 0 where
    d11 : length f.d11 ≡ 6
    d12 : length f.d12 ≡ 6
    d21 : length f.d21 ≡ 384
    d22 : length f.d22 ≡ 6

  zero_long : (b : Bool) → EndsBy ws c b → LongZero (zero_by ws c b)
  unfolding zero_in
  zero_long true e = record {
    d11 = length_read ws at 6 (omega arith);
    d12 = length_read ws (at + 6) 6 (omega arith);
    d21 = made_long ws (replicate 384 0f) (at + 6 + 6 + 6) (6 * c.nmcp) (omega arith) (omega (arith, room.nmcp));
    d22 = length_read ws (at + 6 + 6) 6 (omega arith);
  }
  zero_long false e = record { d11 = refl; d12 = refl; d21 = refl; d22 = refl }

  nonzero_long : (b : Bool) → EndsBy ws c b → length (nonzero_by ws c b).d ≡ 512
  unfolding nonzero_in
  nonzero_long true e = refl
  nonzero_long false e = made_long ws (replicate 512 0f) at (c.stage * c.nmcp) (omega arith) (rows_most c room.limits)

  -- ---- the voice

  pub clean_with : Clean (voice_with c ws)
  unfolding voice_with clean_zero clean_nonzero
  clean_with = record {
    line = made_clean ws none 19 c.nlpf (omega (arith, fits ws c room));
    lpf = made_clean ws none (lpf_at c.nlpf) c.nlpf (omega (arith, fits ws c room));
    coefficients = made_clean ws none (spectrum_at c.nlpf) c.nmcp (omega (arith, fits ws c room));
    increments = made_clean ws none (spectrum_at c.nlpf + c.nmcp) c.nmcp (omega (arith, fits ws c room));
    targets = made_clean ws none (spectrum_at c.nlpf + c.nmcp + c.nmcp) c.nmcp (omega (arith, fits ws c room));
    zero = zero_clean (eqb c.stage 0) room.room;
    nonzero = nonzero_clean (eqb c.stage 0) room.room;
  }

  pub long_with : Long (voice_with c ws)
  unfolding voice_with random_in
  long_with =
      let zero = zero_long (eqb c.stage 0) room.room in
      record {
        line = made_long ws none 19 c.nlpf (omega (arith, fits ws c room)) taps;
        lpf = made_long ws none (lpf_at c.nlpf) c.nlpf (omega (arith, fits ws c room)) taps;
        queue = length_read ws (noise_at c.nlpf + 2) 64 (omega (arith, fits ws c room));
        coefficients = made_long ws none (spectrum_at c.nlpf) c.nmcp (omega (arith, fits ws c room)) entries;
        increments = made_long ws none (spectrum_at c.nlpf + c.nmcp) c.nmcp (omega (arith, fits ws c room)) entries;
        targets = made_long ws none (spectrum_at c.nlpf + c.nmcp + c.nmcp) c.nmcp (omega (arith, fits ws c room)) entries;
        d11 = zero.d11;
        d12 = zero.d12;
        d21 = zero.d21;
        d22 = zero.d22;
        d = nonzero_long (eqb c.stage 0) room.room;
      }
