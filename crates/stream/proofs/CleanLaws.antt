-- What no slot saves stays zero: in a fresh voice, after a frame, and after a sample. Assumes nothing.
use mathlib.Core.Path.{◌≡◌, refl, ap, ◌∙◌}
use mathlib.Core.Bool.{Bool, true, false}
use mathlib.Core.List.{List}
use Prim.Native.Nat.{ℕ, ◌*◌, ◌≤◌}
use native.Mathlib.Omega.{arith}
use lib.Dec.{eqb}
use lib.ListN.{length, replicate}
use lib.Ieee.{Float}
use Rattle.number.specs.F64.{0f}
use Rattle.history.specs.Steps.{one}
use Rattle.mlsa.specs.declared.MelLogSpectrumApproximation.{MelLogSpectrumApproximation}
use Rattle.mlsa.specs.Mlsa.{filter, fresh_filter}
use Rattle.mglsa.specs.declared.MelGeneralizedLogSpectrumApproximation.{MelGeneralizedLogSpectrumApproximation}
use Rattle.mglsa.specs.Mglsa.{fresh_rows}
use Rattle.configuration.specs.declared.Configuration.{Configuration}
use Rattle.configuration.specs.Limits.{limits_kept}
use Rattle.configuration.proofs.LimitsLaws.{sizes}
use Rattle.voice.specs.declared.Voice.{Voice}
use Rattle.voice.specs.Voice.{at_rest, fresh_voice}
use Rattle.voice.proofs.IdleLaws.{kept_of}
use Rattle.refusing.specs.Refusal.{Frame, earlier}
use Rattle.refusing.proofs.EarlierLaws.{fits_of}
use Rattle.giving.specs.Give.{given}
use Rattle.drawing.specs.Step.{step}
use Rattle.trips.specs.Clean.{zeros_from, clean_zero, clean_nonzero, Clean}
use Rattle.slots.proofs.CountLaws.{Long, rows_most}
use Rattle.stream.proofs.PastLaws.{zeros_still, zeros_clean}
use Rattle.stream.proofs.FilterLaws.{SameRows}
use Rattle.stream.proofs.KeptLaws.{Kept, given_keeps}
use Rattle.stream.proofs.SampleLaws.{step_keeps}

-- ---- A FRESH VOICE

module _ (c : Configuration) where
  fresh_zero : fresh_filter ≡ clean_zero c fresh_filter
  unfolding clean_zero
  fresh_zero = go (eqb c.stage 0) refl
    where
      go : (b : Bool) → eqb c.stage 0 ≡ b → fresh_filter ≡ clean_zero c fresh_filter
      go true e = rw e (ap (λ (l : List Float). filter (replicate 6 0f) (replicate 6 0f) l (replicate 6 0f)) (zeros_clean (6 * c.nmcp) 384))
      go false e = rw e refl

  fresh_nonzero : fresh_rows ≡ clean_nonzero c fresh_rows
  unfolding clean_nonzero
  fresh_nonzero = go (eqb c.stage 0) refl
    where
      go : (b : Bool) → eqb c.stage 0 ≡ b → fresh_rows ≡ clean_nonzero c fresh_rows
      go true e = rw e refl
      go false e = rw e (ap (λ (l : List Float). record { d = l }) (zeros_clean (c.stage * c.nmcp) 512))

  pub fresh_clean : Clean (fresh_voice c)
  unfolding at_rest
  fresh_clean = record {
    line = zeros_clean c.nlpf 64;
    lpf = zeros_clean c.nlpf 64;
    coefficients = zeros_clean c.nmcp 64;
    increments = zeros_clean c.nmcp 64;
    targets = zeros_clean c.nmcp 64;
    zero = fresh_zero;
    nonzero = fresh_nonzero;
  }

-- ---- THE FILTERS

module _ (c : Configuration) (f g : MelLogSpectrumApproximation) (d e : List Float) (same : SameRows c f g d e) where
  zero_still : 6 * c.nmcp ≤ length f.d21 → f ≡ clean_zero c f → g ≡ clean_zero c g
  unfolding clean_zero
  zero_still h clean = go (eqb c.stage 0) refl
    where
      go : (b : Bool) → eqb c.stage 0 ≡ b → g ≡ clean_zero c g
      go true t =
          let rows : f.d21 ≡ zeros_from (6 * c.nmcp) 384 f.d21 = ap (λ (m : MelLogSpectrumApproximation). m.d21) (rw t at clean) in
          rw t (ap (λ (l : List Float). filter g.d11 g.d12 l g.d22) (zeros_still (6 * c.nmcp) 384 f.d21 g.d21 same.zero.d21 h rows))
      go false t = rw t (same.other_zero t ∙ (rw t at clean))

  abbrev rows_of : List Float → MelGeneralizedLogSpectrumApproximation
  rows_of l = record { d = l }

  nonzero_still : c.stage * c.nmcp ≤ length d → rows_of d ≡ clean_nonzero c (rows_of d) → rows_of e ≡ clean_nonzero c (rows_of e)
  unfolding clean_nonzero
  nonzero_still h clean = go (eqb c.stage 0) refl
    where
      go : (b : Bool) → eqb c.stage 0 ≡ b → rows_of e ≡ clean_nonzero c (rows_of e)
      go true t = rw t (ap rows_of (same.other_nonzero t) ∙ (rw t at clean))
      go false t =
          let rows : d ≡ zeros_from (c.stage * c.nmcp) 512 d = ap (λ (m : MelGeneralizedLogSpectrumApproximation). m.d) (rw t at clean) in
          rw t (ap rows_of (zeros_still (c.stage * c.nmcp) 512 d e same.nonzero h rows))

-- ---- THE VOICE

module _ (v t : Voice) (k : Kept v t) (long : Long v) (kept : limits_kept v.configuration ≡ true) (clean : Clean v) where
  taps : v.configuration.nlpf ≤ 64
  taps = (sizes v.configuration kept).nlpf_most

  entries : v.configuration.nmcp ≤ 64
  entries = (sizes v.configuration kept).nmcp_most

  clean_still : Clean t
  clean_still =
      let c = v.configuration in
      record {
        line = rw k.configuration (zeros_still c.nlpf 64 v.line t.line k.line (omega (arith, taps, long.line)) clean.line);
        lpf = rw k.configuration (zeros_still c.nlpf 64 v.lpf t.lpf k.lpf (omega (arith, taps, long.lpf)) clean.lpf);
        coefficients = rw k.configuration (zeros_still c.nmcp 64 v.coefficients t.coefficients k.coefficients (omega (arith, entries, long.coefficients)) clean.coefficients);
        increments = rw k.configuration (zeros_still c.nmcp 64 v.increments t.increments k.increments (omega (arith, entries, long.increments)) clean.increments);
        targets = rw k.configuration (zeros_still c.nmcp 64 v.targets t.targets k.targets (omega (arith, entries, long.targets)) clean.targets);
        zero = rw k.configuration (zero_still c v.zero t.zero v.nonzero.d t.nonzero.d k.filters (omega (arith, entries, long.d21)) clean.zero);
        nonzero = rw k.configuration (nonzero_still c v.zero t.zero v.nonzero.d t.nonzero.d k.filters (omega (arith, rows_most c kept, long.d)) clean.nonzero);
      }

pub given_clean : (f : Frame) (v : Voice) → Long v → Clean v → earlier f v ≡ 0 → Clean (given f v)
given_clean f v long clean e =
    let kept = kept_of v.configuration v.meter v.left v.first v.random.used (fits_of f v e).usable in
    clean_still v (given f v) (given_keeps f v long e) long kept clean

pub step_clean : (bound : ℕ) (v t : Voice) (x : Float) → Long v → limits_kept v.configuration ≡ true → Clean v → step bound v ≡ one x t → Clean t
step_clean bound v t x long kept clean e = clean_still v t (step_keeps bound v t x long kept e) long kept clean
