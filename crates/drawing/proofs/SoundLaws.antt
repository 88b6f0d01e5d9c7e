-- The parts that the code lends of a voice, and what it puts back. Assumes nothing.
use mathlib.Core.Path.{◌≡◌, refl, sym, ap, ◌∙◌}
use mathlib.Core.Bool.{Bool, true, false, cond}
use mathlib.Core.List.{List, ◌++◌}
use Prim.Native.Nat.{ℕ, ◌+◌, ◌-◌, ◌≤◌, ◌<◌}
use lib.Dec.{eqb}
use lib.ListN.{length, take, drop}
use lib.Seq.{drop-append_seam, take-append_seam, length-take-le}
use lib.Ieee.{Float}
use Rattle.number.specs.Lists.{over}
use Rattle.history.specs.Steps.{Run, steps}
use Rattle.history.specs.Through.{Passage, passage, through}
use Rattle.history.proofs.ThroughLaws.{through_length}
use Rattle.history.proofs.FeedingLaws.{then_through, fed_steps, through_within}
use Rattle.noise.specs.declared.Random.{Random}
use Rattle.pulse.specs.declared.Pulse.{Pulse}
use Rattle.pulse.specs.Train.{end_of}
use Rattle.excitation.specs.Excitation as excitation
use Rattle.excitation.specs.Excitation.{Excitation, step_of, stretch_of}
use Rattle.mlsa.specs.declared.MelLogSpectrumApproximation.{MelLogSpectrumApproximation}
use Rattle.mglsa.specs.declared.MelGeneralizedLogSpectrumApproximation.{MelGeneralizedLogSpectrumApproximation}
use Rattle.filter.specs.Sample.{State, state}
use Rattle.filter.specs.Zero as zeroStage
use Rattle.filter.specs.NonZero as otherStages
use Rattle.voice.specs.declared.Voice.{Voice}
use Rattle.voice.specs.Voice.{in_front}
use Rattle.voice.proofs.FrontLaws.{front_twice}
use Rattle.drawing.specs.Step.{Filters, filters, taps_of, increments_of, excitation_of, filters_of, moved, with_excitation, with_filters, counted, closed, closed_at_end, turn_of, step, filtered}
use Rattle.drawing.specs.declared.sound.Remains.{Remains}
use Rattle.drawing.specs.Finish.{pulse_at_end, entries_at_end, with_remains, ended}
use Rattle.drawing.proofs.StepLaws.{Long, samples_are, finished}

module _ (v : Voice) where
  -- the voice with an excitation and its samples counted, as the code builds it
  pub excited_voice : (e : Excitation) (made : ℕ) (pulse : Pulse) (random : Random) (line : List Float) → excitation.state pulse random line ≡ e → length line ≡ v.configuration.nlpf
      → moved v (v.meter + made) (v.left - made) pulse random (line ++ drop v.configuration.nlpf v.line) v.coefficients v.zero v.nonzero ≡ counted made (with_excitation e v)
  excited_voice e made pulse random line h n = rw (← h, n) refl

  -- the voice with other coefficients and taps
  abbrev pub refiltered : List Float → MelLogSpectrumApproximation → MelGeneralizedLogSpectrumApproximation → Voice
  refiltered c zero nonzero = moved v v.meter v.left v.pulse v.random v.line (in_front c v.coefficients) zero nonzero

  -- the filters over some samples
  module _ (n : ℕ) (size : n ≡ v.configuration.nmcp) (xs out c before : List Float) (whole : before ≡ take v.configuration.nmcp v.coefficients) where
    pub filtered_zero : (taps : MelLogSpectrumApproximation) → eqb v.configuration.stage 0 ≡ true
        → passage out (state c taps) ≡ through (zeroStage.sample_of v.configuration.alpha v.configuration.volume (take n v.increments)) (state before v.zero) xs
        → passage out (refiltered c taps v.nonzero) ≡ filtered v xs
    unfolding filtered turn_of
    filtered_zero taps s h =
        let inside = through_within (λ (f : Filters). state f.c f.zero) (λ (t : State MelLogSpectrumApproximation) (f : Filters). filters t.c t.filter f.nonzero)
        (zeroStage.sample_of v.configuration.alpha v.configuration.volume (increments_of v)) (λ (f : Filters). refl) (λ (t : State MelLogSpectrumApproximation) (f : Filters). refl) (λ (t u : State MelLogSpectrumApproximation) (f : Filters). refl) (filters_of v) xs in
        let asked = rw (size, whole) at h in
        rw (s, inside, ← asked) refl

    pub filtered_nonzero : (taps : MelGeneralizedLogSpectrumApproximation) → eqb v.configuration.stage 0 ≡ false
        → passage out (state c taps.d) ≡ through (otherStages.sample_of v.configuration.alpha v.configuration.stage v.configuration.volume (take n v.increments)) (state before v.nonzero.d) xs
        → passage out (refiltered c v.zero taps) ≡ filtered v xs
    unfolding filtered turn_of
    filtered_nonzero taps s h =
        let inside = through_within (λ (f : Filters). state f.c f.nonzero) (λ (t : State (List Float)) (f : Filters). filters t.c f.zero t.filter)
        (otherStages.sample_of v.configuration.alpha v.configuration.stage v.configuration.volume (increments_of v)) (λ (f : Filters). refl) (λ (t : State (List Float)) (f : Filters). refl) (λ (t u : State (List Float)) (f : Filters). refl) (filters_of v) xs in
        let asked = rw (size, whole) at h in
        rw (s, inside, ← asked) refl

  -- the frame's end after them
  module _ (xs out c : List Float) (zero : MelLogSpectrumApproximation) (nonzero : MelGeneralizedLogSpectrumApproximation) (some : length c ≡ v.configuration.nmcp)
      (goals : v.configuration.nmcp ≤ length v.targets) (over-them : passage out (refiltered c zero nonzero) ≡ filtered v xs) where
    at_end : (b : Bool)
        → moved v v.meter v.left (cond b (end_of v.pulse) v.pulse) v.random v.line (in_front (cond b (take v.configuration.nmcp v.targets) c) v.coefficients) zero nonzero
        ≡ cond b (closed (refiltered c zero nonzero)) (refiltered c zero nonzero)
    at_end true =
        ap (λ (entries : List Float). moved v v.meter v.left (end_of v.pulse) v.random v.line entries zero nonzero)
        (sym (front_twice v.configuration.nmcp v.coefficients (take v.configuration.nmcp v.targets) c (length-take-le v.configuration.nmcp v.targets goals) some))
    at_end false = refl

    pub ended_is : (pulse : Pulse) (last : List Float) → (pulse ≡ pulse_at_end v) × (last ≡ entries_at_end v c)
        → passage out (with_remains last (record { pulse = pulse; zero = zero; nonzero = nonzero }) v) ≡ ended v xs
    unfolding ended
    ended_is pulse last (p, e) = rw (p, e, ← over-them) (ap (λ (w : Voice). passage out w) (at_end (eqb v.left 0)))

  -- the voice with all of that, as the code builds it
  pub finished_voice : (c : List Float) (r : Remains) → length c ≡ v.configuration.nmcp
      → moved v v.meter v.left r.pulse v.random v.line (c ++ drop v.configuration.nmcp v.coefficients) r.zero r.nonzero ≡ with_remains c r v
  finished_voice c r n = rw n refl

-- ---- both passes

-- what a buffer holds whose first entries were filled and then turned
pub turned_over : (xs ys before : List Float) (n : ℕ) → length xs ≡ n → ys ++ drop n (over xs n before) ≡ over ys n before
turned_over xs ys before n h = ap (λ (l : List Float). ys ++ l) (rw (← h) (drop-append_seam xs (drop (length xs) before)))

pub lent_made : (xs before : List Float) (n : ℕ) → length xs ≡ n → take n (over xs n before) ≡ xs
lent_made xs before n h = rw (← h) (take-append_seam xs (drop (length xs) before))

module _ (bound n : ℕ) (v : Voice) (l : Long v) (some : 0 < v.left) (few : n ≤ v.left) where
  abbrev source : Run Excitation Float
  source = stretch_of bound (taps_of v) n (excitation_of v)

  abbrev passed : Passage Filters Float
  passed = through (turn_of v.configuration (increments_of v)) (filters_of v) source.made

  -- the samples are those of the two passes, and so is the voice once they are counted
  pub two_passes : steps (step bound) n v ≡ record { made = passed.made; state = closed_at_end (counted (length source.made) (with_filters passed.state (with_excitation source.state v))); is_dry = source.is_dry }
  unfolding then_through
  two_passes =
      samples_are bound n v l some few
      ∙ ap (finished v) (fed_steps (turn_of v.configuration (increments_of v)) (step_of bound (taps_of v)) n (excitation_of v) (filters_of v))
      ∙ rw (through_length (turn_of v.configuration (increments_of v)) (filters_of v) source.made) refl

  -- what the code's two calls leave
  module _ (fed last : Voice) (made : ℕ) (filled part before : List Float)
      (is-fed : fed ≡ counted made (with_excitation source.state v)) (is_made : made ≡ length source.made) (is-filled : filled ≡ over source.made made before)
      (is_last : passage part last ≡ ended fed (take made filled)) where
    through_both : passage part last ≡ passage passed.made (closed_at_end (counted made (with_filters passed.state (with_excitation source.state v))))
    unfolding ended filtered
    through_both = is_last ∙ rw (is-fed, is-filled, lent_made source.made before made (sym is_made)) refl

    pub sounded_is : (last ≡ (steps (step bound) n v).state) × (made ≡ length (steps (step bound) n v).made) × (part ++ drop made filled ≡ over (steps (step bound) n v).made made before)
    sounded_is =
        let out : part ≡ passed.made = ap (λ (p : Passage Voice Float). p.made) through_both in
        let on : last ≡ closed_at_end (counted made (with_filters passed.state (with_excitation source.state v))) = ap (λ (p : Passage Voice Float). p.state) through_both in
        let count : length passed.made ≡ made = through_length (turn_of v.configuration (increments_of v)) (filters_of v) source.made ∙ sym is_made in
        (on ∙ rw (two_passes, is_made) refl, rw two_passes (sym count), rw (two_passes, out, is-filled) (turned_over source.made passed.made before made (sym is_made)))
