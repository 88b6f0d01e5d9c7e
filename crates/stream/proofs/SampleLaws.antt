-- What a sample leaves of a voice: its arrays' lengths, and all that is not in use of them. Assumes nothing.
use mathlib.Core.Path.{◌≡◌, refl, sym, subst, ◌∙◌}
use mathlib.Core.Bool.{true}
use Prim.Native.Nat.{ℕ, ◌≤◌}
use native.Mathlib.Omega.{arith}
use lib.ListN.{length, take}
use lib.Seq.{length-take-le}
use lib.Ieee.{Float}
use Rattle.history.specs.Steps.{Step, dry, one}
use Rattle.excitation.specs.Excitation.{Excitation, step_of}
use Rattle.configuration.specs.Limits.{limits_kept}
use Rattle.configuration.proofs.LimitsLaws.{sizes}
use Rattle.voice.specs.declared.Voice.{Voice}
use Rattle.drawing.specs.Step.{taps_of, increments_of, excitation_of, filters_of, closed, turn_of, step}
use Rattle.drawing.proofs.KeepLaws.{Taps, taps_kept, entries_kept}
use Rattle.slots.proofs.CountLaws.{Long, rows_most}
use Rattle.stream.proofs.PartLaws.{After, turned, after, at_end, after_step, noise_after}
use Rattle.stream.proofs.NoiseLaws.{Full, noise_full}
use Rattle.stream.proofs.PastLaws.{past_same, past_then, past_front}
use Rattle.stream.proofs.FilterLaws.{turn_same}
use Rattle.stream.proofs.KeptLaws.{Kept}

-- a line of so many taps, and a full queue
record Sized (n : ℕ) (e : Excitation) : Type 0 where
  pub taps : length e.line ≡ n
  pub queue : Full e.random

sized_after : (n : ℕ) (t : Step Excitation Float) → Taps n t → After (λ (e : Excitation). Full e.random) t → After (Sized n) t
sized_after n dry h k = tt
sized_after n (one x e) h k = record { taps = h; queue = k }

module _ (v : Voice) (long : Long v) (kept : limits_kept v.configuration ≡ true) where
  taps_few : v.configuration.nlpf ≤ length v.line
  taps_few = omega (arith, (sizes v.configuration kept).nlpf_most, long.line)

  entries_few : v.configuration.nmcp ≤ length v.coefficients
  entries_few = omega (arith, (sizes v.configuration kept).nmcp_most, long.coefficients)

  entries_now : length (take v.configuration.nmcp v.coefficients) ≡ v.configuration.nmcp
  entries_now = length-take-le v.configuration.nmcp v.coefficients entries_few

  turned_kept : (x : Float) (e : Excitation) → Sized v.configuration.nlpf e → Kept v (turned v x e)
  turned_kept x e s =
      let c = v.configuration in
      let t = (turn_of c (increments_of v) (filters_of v) x).state in
      record {
        configuration = refl;
        line = past_front c.nlpf v.line e.line s.taps taps_few;
        lpf = past_same c.nlpf v.lpf;
        queue = s.queue ∙ sym long.queue;
        coefficients = past_front c.nmcp v.coefficients t.c (entries_kept c (increments_of v) (filters_of v) x ∙ entries_now) entries_few;
        increments = past_same c.nmcp v.increments;
        targets = past_same c.nmcp v.targets;
        filters = turn_same c (increments_of v) (filters_of v) x entries_now (omega (arith, long.d11)) (omega (arith, long.d21, (sizes c kept).nmcp_most)) (omega (arith, long.d, rows_most c kept));
      }

  -- at the frame's end the coefficients are changed once more
  closed_kept : (t : Voice) → Kept v t → Kept v (closed t)
  closed_kept t k =
      let n = v.configuration.nmcp in
      let targets : length (take t.configuration.nmcp t.targets) ≡ n =
      rw k.configuration (length-take-le n t.targets (omega (arith, k.targets.size, long.targets, (sizes v.configuration kept).nmcp_most))) in
      let again = past_front n t.coefficients (take t.configuration.nmcp t.targets) targets (omega (arith, k.coefficients.size, entries_few)) in
      record {
        configuration = k.configuration;
        line = k.line;
        lpf = k.lpf;
        queue = k.queue;
        coefficients = past_then n v.coefficients t.coefficients (closed t).coefficients k.coefficients again;
        increments = k.increments;
        targets = k.targets;
        filters = k.filters;
      }

  after_kept : (x : Float) (e : Excitation) → Sized v.configuration.nlpf e → Kept v (after v x e)
  after_kept x e s = let k = turned_kept x e s in at_end (Kept v) (turned v x e) k (closed_kept (turned v x e) k)

  excitation_sized : (bound : ℕ) → After (Sized v.configuration.nlpf) (step_of bound (taps_of v) (excitation_of v))
  excitation_sized bound =
      let n = v.configuration.nlpf in
      let now : length (take n v.line) ≡ n = length-take-le n v.line taps_few in
      let t = step_of bound (taps_of v) (excitation_of v) in
      sized_after n t (subst (λ (m : ℕ). Taps m t) now (taps_kept bound (taps_of v) (excitation_of v)))
      (noise_after Full bound (taps_of v) (excitation_of v) long.queue (noise_full bound v.random long.queue))

pub step_keeps : (bound : ℕ) (v t : Voice) (x : Float) → Long v → limits_kept v.configuration ≡ true → step bound v ≡ one x t → Kept v t
step_keeps bound v t x long kept e = after_step (Kept v) (Sized v.configuration.nlpf) v (after_kept v long kept) bound t x (excitation_sized v long kept bound) e
