-- Every voice that the calls return is good: open, give, a sample, restore. Assumes nothing.
use mathlib.Core.Path.{◌≡◌}
use mathlib.Core.Bool.{true}
use mathlib.Core.List.{List, [], ◌∷◌, map}
use Prim.Native.Nat.{ℕ, zero, ◌+◌, ◌*◌, ◌<◌}
use lib.Dec.{eqb, lit<}
use lib.Ieee.{Float, binary64}
use lib.Ieee.Bits.{of_bits-fits}
use lib.ListN.{take, drop, replicate}
use Rattle.number.specs.F64.{0f}
use Rattle.number.specs.Bits.{float_of}
use Rattle.number.specs.Bytes.{Bytes}
use Rattle.history.specs.Steps.{one}
use Rattle.elementary.specs.Outcome.{Outcome, outside, inside}
use Rattle.prepare.specs.Preparing.{Spectra}
use Rattle.mlsa.specs.Mlsa.{fresh_filter}
use Rattle.mglsa.specs.declared.MelGeneralizedLogSpectrumApproximation.{MelGeneralizedLogSpectrumApproximation}
use Rattle.mglsa.specs.Mglsa.{fresh_rows}
use Rattle.configuration.specs.declared.Configuration.{Configuration}
use Rattle.configuration.specs.Limits.{limits_kept}
use Rattle.voice.specs.declared.Voice.{Voice}
use Rattle.voice.specs.Voice.{at_rest, fresh_voice}
use Rattle.refusing.specs.Refusal.{Frame}
use Rattle.giving.specs.Give.{prepared, refusal, begun, begun_with, given}
use Rattle.drawing.specs.Step.{step}
use Rattle.whole.proofs.Demand2.{still_usable, earlier_none}
use Rattle.held.specs.Held.{Holds, AllHeld, HeldConfiguration, HeldTaps, Held, HeldFrame}
use Rattle.held.proofs.OutcomesKeep.{either}
use Rattle.held.proofs.HeldLists.{held_front, held_zeros}
use Rattle.held.proofs.HeldFresh.{fresh_held}
use Rattle.held.proofs.HeldGive.{given_held}
use Rattle.held.proofs.HeldStep.{step_held}
use Rattle.records.proofs.TripLaws.{values_below}
use Rattle.slots.specs.Slots.{floats_at, array_at, configuration_in, pulse_in, random_in, lpf_at, noise_at, queue_at, spectrum_at, filter_at, zero_in, zero_for, nonzero_in, nonzero_for, voice_with, voice_in}
use Rattle.trips.proofs.AgainLaws.{usable_in, long_in, clean_in}
use Rattle.rest.specs.Rest.{record_count, slots_in, accepted}
use Rattle.rest.proofs.RestLaws.{accepts_of}
use Rattle.stream.proofs.UsableLaws.{fresh_usable, step_usable}
use Rattle.stream.proofs.LongLaws.{fresh_long, given_long, step_long}
use Rattle.stream.proofs.CleanLaws.{fresh_clean, given_clean, step_clean}
use Rattle.stream.proofs.NextLaws.{Below, step_next}
use Rattle.stream.proofs.TripLaws.{Good, limits}

-- ---- open

fresh_next : (c : Configuration) → Below (fresh_voice c).random.next
unfolding at_rest
fresh_next c = lit< tt

pub fresh_good : (c : Configuration) → HeldConfiguration c → limits_kept c ≡ true → Good (fresh_voice c)
fresh_good c h kept = record { usable = fresh_usable c kept; long = fresh_long c; clean = fresh_clean c; held = fresh_held c h; next = fresh_next c }

-- ---- give

with_outcome : (f : Frame) (v : Voice) (o : Outcome Spectra) → Below v.random.next → Below (begun_with f v o).random.next
unfolding begun
with_outcome f v outside h = h
with_outcome f v (inside p) h = h

given_next : (f : Frame) (v : Voice) → Below v.random.next → Below (given f v).random.next
unfolding given
given_next f v h = with_outcome f v (prepared f v) h

pub given_good : (f : Frame) (v : Voice) → HeldFrame f → Good v → refusal f v ≡ 0 → Good (given f v)
given_good f v k g e =
    let early = earlier_none f v e in
    record {
      usable = still_usable f v e;
      long = given_long f v g.long early;
      clean = given_clean f v g.long g.clean early;
      held = given_held f v k g.held;
      next = given_next f v g.next;
    }

-- ---- a sample

pub step_good : (bound : ℕ) (v t : Voice) (x : Float) → Good v → 0 < v.left → step bound v ≡ one x t → Good t
step_good bound v t x g some e = record {
  usable = (step_usable bound v t x g.usable some e).0;
  long = step_long bound v t x g.long (limits v g) e;
  clean = step_clean bound v t x g.long (limits v g) g.clean e;
  held = step_held bound v t x g.held e;
  next = step_next bound v t x g.next e;
}

-- ---- restore

read_held : (b : ℕ) → Holds (float_of b)
read_held b = of_bits-fits binary64 b

list_held : (l : List ℕ) → AllHeld (map float_of l)
list_held [] = tt
list_held (b ∷ l) = (read_held b, list_held l)

module _ (ws : List ℕ) where
  floats_held : (at n : ℕ) → AllHeld (floats_at ws at n)
  floats_held at n = list_held (take n (drop at ws))

  array_held : (at n : ℕ) → AllHeld (array_at ws at n)
  array_held at n = held_front (floats_at ws at n) (replicate 64 0f) (floats_held at n) (held_zeros 64)

  zero_held : (c : Configuration) (at : ℕ) → HeldTaps (zero_for c ws at)
  unfolding zero_in
  zero_held c at =
      either HeldTaps (eqb c.stage 0) (zero_in ws at c.nmcp) fresh_filter
      (record {
        d11 = floats_held at 6;
        d12 = floats_held (at + 6) 6;
        d21 = held_front (floats_at ws (at + 6 + 6 + 6) (6 * c.nmcp)) (replicate 384 0f) (floats_held (at + 6 + 6 + 6) (6 * c.nmcp)) (held_zeros 384);
        d22 = floats_held (at + 6 + 6) 6;
      })
      (record { d11 = held_zeros 6; d12 = held_zeros 6; d21 = held_zeros 384; d22 = held_zeros 6 })

  nonzero_held : (c : Configuration) (at : ℕ) → AllHeld (nonzero_for c ws at).d
  unfolding nonzero_in
  nonzero_held c at =
      either (λ (f : MelGeneralizedLogSpectrumApproximation). AllHeld f.d) (eqb c.stage 0) fresh_rows (nonzero_in ws at (c.stage * c.nmcp))
      (held_zeros 512) (held_front (floats_at ws at (c.stage * c.nmcp)) (replicate 512 0f) (floats_held at (c.stage * c.nmcp)) (held_zeros 512))

  abbrev nmcp : ℕ
  nmcp = (configuration_in ws).nmcp

  abbrev nlpf : ℕ
  nlpf = (configuration_in ws).nlpf

  voice_held : Held (voice_in ws)
  unfolding configuration_in pulse_in random_in voice_with
  voice_held = record {
    configuration = record { alpha = read_held _; beta = read_held _; volume = read_held _; nodata = read_held _; low = read_held _; high = read_held _ };
    pulse = record { pitch = read_held _; counter = read_held _; increment = read_held _; end = read_held _ };
    line = array_held 19 nlpf;
    lpf = array_held (lpf_at nlpf) nlpf;
    queue = floats_held (queue_at nlpf) 64;
    coefficients = array_held (spectrum_at nlpf) nmcp;
    increments = array_held (spectrum_at nlpf + nmcp) nmcp;
    targets = array_held (spectrum_at nlpf + nmcp + nmcp) nmcp;
    zero = zero_held (configuration_in ws) (filter_at nmcp nlpf);
    nonzero = nonzero_held (configuration_in ws) (filter_at nmcp nlpf);
  }

pub restored_good : (bytes : List ℕ) → Bytes bytes → accepted bytes ≡ true → Good (voice_in (slots_in bytes))
unfolding random_in voice_with
restored_good bytes are e =
    let good = (accepts_of bytes e).sound_slots in
    record {
      usable = usable_in (slots_in bytes) good;
      long = long_in (slots_in bytes) good;
      clean = clean_in (slots_in bytes) good;
      held = voice_held (slots_in bytes);
      next = values_below (record_count bytes) bytes are (noise_at (configuration_in (slots_in bytes)).nlpf);
    }
