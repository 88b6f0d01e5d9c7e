-- What a frame leaves of a voice: its arrays' lengths, and all that is not in use of them. Assumes nothing.
use mathlib.Core.Path.{◌≡◌, refl, sym, subst, ◌∙◌}
use Prim.Native.Nat.{ℕ}
use native.Mathlib.Omega.{arith}
use lib.ListN.{length, take}
use lib.Seq.{length-take-le}
use Rattle.elementary.specs.Outcome.{Outcome, outside, inside}
use Rattle.prepare.specs.Preparing.{Spectra}
use Rattle.voice.specs.declared.Voice.{Voice}
use Rattle.refusing.specs.Refusal.{Frame, earlier}
use Rattle.refusing.proofs.EarlierLaws.{Fits, fits_of, sizes_of}
use Rattle.giving.specs.Begin.{increments_of}
use Rattle.giving.specs.Give.{prepared, begun, begun_with, given}
use Rattle.giving.proofs.BeginLaws.{length_increments}
use Rattle.held.proofs.OutcomesKeep.{Inside, Both}
use Rattle.slots.proofs.CountLaws.{Long}
use Rattle.stream.proofs.PastLaws.{Past, past_same, past_front}
use Rattle.stream.proofs.FilterLaws.{SameRows, same_rows}
use Rattle.stream.proofs.MelLaws.{Has}
use Rattle.stream.proofs.SpectrumLaws.{prepared_of}

pub record Kept (v t : Voice) : Type 0 where
  pub configuration : t.configuration ≡ v.configuration
  pub line : Past v.configuration.nlpf v.line t.line
  pub lpf : Past v.configuration.nlpf v.lpf t.lpf
  pub queue : length t.random.queue ≡ length v.random.queue
  pub coefficients : Past v.configuration.nmcp v.coefficients t.coefficients
  pub increments : Past v.configuration.nmcp v.increments t.increments
  pub targets : Past v.configuration.nmcp v.targets t.targets
  pub filters : SameRows v.configuration v.zero t.zero v.nonzero.d t.nonzero.d

pub kept_same : (v : Voice) → Kept v v
kept_same v =
    let c = v.configuration in
    record {
      configuration = refl;
      line = past_same c.nlpf v.line;
      lpf = past_same c.nlpf v.lpf;
      queue = refl;
      coefficients = past_same c.nmcp v.coefficients;
      increments = past_same c.nmcp v.increments;
      targets = past_same c.nmcp v.targets;
      filters = same_rows c v.zero v.nonzero.d;
    }

-- ---- A FRAME

module _ (f : Frame) (v : Voice) (long : Long v) (fits : Fits f v) where
  begun_kept : (p : Spectra) → Both (Has v.configuration.nmcp) p → Kept v (begun f p v)
  unfolding begun
  begun_kept p n =
      let c = v.configuration in
      let few = sizes_of f v fits in
      let increments = increments_of c.fperiod p.targets p.start in
      let m : length increments ≡ c.nmcp = length_increments c.fperiod p.targets p.start (n.start ∙ sym n.targets) ∙ n.targets in
      record {
        configuration = refl;
        line = past_same c.nlpf v.line;
        lpf = past_front c.nlpf v.lpf f.lpf fits.taps (omega (arith, few.nlpf_most, long.lpf));
        queue = refl;
        coefficients = past_front c.nmcp v.coefficients p.start n.start (omega (arith, few.nmcp_most, long.coefficients));
        increments = past_front c.nmcp v.increments increments m (omega (arith, few.nmcp_most, long.increments));
        targets = past_front c.nmcp v.targets p.targets n.targets (omega (arith, few.nmcp_most, long.targets));
        filters = same_rows c v.zero v.nonzero.d;
      }

  with_outcome : (o : Outcome Spectra) → Inside (Both (Has v.configuration.nmcp)) o → Kept v (begun_with f v o)
  with_outcome outside h = kept_same v
  with_outcome (inside p) h = begun_kept p h

  entries_prepared : Inside (Both (Has v.configuration.nmcp)) (prepared f v)
  unfolding prepared
  entries_prepared =
      let c = v.configuration in
      let few = sizes_of f v fits in
      let now : length (take c.nmcp v.coefficients) ≡ c.nmcp = length-take-le c.nmcp v.coefficients (omega (arith, few.nmcp_most, long.coefficients)) in
      subst (λ (n : ℕ). Inside (Both (Has n)) (prepared f v)) fits.entries
      (prepared_of c v.first (take c.nmcp v.coefficients) f.spectrum (omega (arith, few.nmcp_least, fits.entries)) (now ∙ sym fits.entries))

pub given_keeps : (f : Frame) (v : Voice) → Long v → earlier f v ≡ 0 → Kept v (given f v)
unfolding given
given_keeps f v long e = let fits = fits_of f v e in with_outcome f v long fits (prepared f v) (entries_prepared f v long fits)
