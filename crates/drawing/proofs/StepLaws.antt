-- Samples one by one are the excitation of them all, and then the filter over it. Assumes nothing.
use mathlib.Core.Path.{◌≡◌, refl, sym, ap, ◌∙◌}
use mathlib.Core.List.{[], ◌∷◌}
use Prim.Native.Nat.{ℕ, zero, suc, ◌+◌, ◌-◌, ◌≤◌, ◌<◌}
use native.Mathlib.Omega.{arith}
use lib.ListN.{length}
use lib.Seq.{length-take-le}
use lib.Ieee.{Float}
use borrow.Author.Tests.{ne_eqb}
use Rattle.number.proofs.Lists.{length_over}
use Rattle.history.specs.Steps.{Step, dry, one, Run, running, stopped, joined, onward, steps}
use Rattle.history.specs.Feeding.{Feeding, turned_by}
use Rattle.excitation.specs.Excitation.{Excitation, step_of}
use Rattle.voice.specs.declared.Voice.{Voice}
use Rattle.voice.proofs.FrontLaws.{front_twice, front_again, front_of}
use Rattle.drawing.specs.Step.{Filters, taps_of, increments_of, sound_of, with_sound, counted, closed_at_end, turn_of, sound_step, stepped, step}
use Rattle.drawing.proofs.KeepLaws.{Taps, taps_kept, entries_kept}

abbrev Sound : Type 0
Sound = Feeding Excitation Filters

-- a sound with as many taps and coefficients as the voice has
pub record Fit (v : Voice) (s : Sound) : Type 0 where
  pub taps : length s.source.line ≡ v.configuration.nlpf
  pub entries : length s.sink.c ≡ v.configuration.nmcp

-- the voice's arrays are long enough
pub record Long (v : Voice) : Type 0 where
  pub line : v.configuration.nlpf ≤ length v.line
  pub coefficients : v.configuration.nmcp ≤ length v.coefficients

module _ (v : Voice) where
  pub fit_now : Long v → Fit v (sound_of v)
  fit_now l = record { taps = length-take-le v.configuration.nlpf v.line l.line; entries = length-take-le v.configuration.nmcp v.coefficients l.coefficients }

  -- ---- a sound put into the voice

  -- none counted: as it was
  unmoved : Long v → 0 < v.left → closed_at_end (counted 0 (with_sound (sound_of v) v)) ≡ v
  unmoved l h =
      let m : v.meter + 0 ≡ v.meter = omega arith in
      let k : v.left - 0 ≡ v.left = omega arith in
      let same : counted 0 (with_sound (sound_of v) v) ≡ v =
      rw (front_again v.configuration.nlpf v.line l.line, front_again v.configuration.nmcp v.coefficients l.coefficients, m, k) refl in
      ap closed_at_end same ∙ rw (ne_eqb v.left 0 (λ (e : v.left ≡ 0). absurd (omega arith))) refl

  module _ (s : Sound) (fits : Fit v s) where
    got : sound_of (counted 1 (with_sound s v)) ≡ s
    got = rw (front_of v.configuration.nlpf v.line s.source.line fits.taps, front_of v.configuration.nmcp v.coefficients s.sink.c fits.entries) refl

    -- one counted, and then m more, are suc m
    counted_on : (m : ℕ) (t : Sound) → Fit v t → counted m (with_sound t (counted 1 (with_sound s v))) ≡ counted (suc m) (with_sound t v)
    counted_on m t f =
        let more : v.meter + 1 + m ≡ v.meter + suc m = omega arith in
        let fewer : v.left - 1 - m ≡ v.left - suc m = omega arith in
        rw (
          front_twice v.configuration.nlpf v.line t.source.line s.source.line f.taps fits.taps,
          front_twice v.configuration.nmcp v.coefficients t.sink.c s.sink.c f.entries fits.entries,
          more,
          fewer,
        ) refl

pub long_still : (v : Voice) (s : Sound) → Fit v s → Long v → Long (counted 1 (with_sound s v))
long_still v s f l =
    let line = length_over s.source.line v.line (length s.source.line) refl (omega (arith, f.taps, l.line)) in
    let c = length_over s.sink.c v.coefficients (length s.sink.c) refl (omega (arith, f.entries, l.coefficients)) in
    record { line = omega (arith, line, l.line); coefficients = omega (arith, c, l.coefficients) }

-- ---- a run keeps the counts

abbrev Fits : Voice → Step Sound Float → Type 0
Fits v dry = Unit {0}
Fits v (one x s) = Fit v s

fits_turned : (v : Voice) (t : Step Excitation Float) (f : Filters) → Taps v.configuration.nlpf t → length f.c ≡ v.configuration.nmcp
    → Fits v (turned_by (turn_of v.configuration (increments_of v)) t f)
fits_turned v dry f h e = tt
fits_turned v (one x s) f h e = record { taps = h; entries = entries_kept v.configuration (increments_of v) f x ∙ e }

module _ (bound : ℕ) (v : Voice) where
  fits_step : (s : Sound) → Fit v s → Fits v (sound_step bound v s)
  fits_step s f =
      let kept = taps_kept bound (taps_of v) s.source in
      fits_turned v (step_of bound (taps_of v) s.source) s.sink (rw f.taps at kept) f.entries

  fit_onward : (n : ℕ) → ((s : Sound) → Fit v s → Fit v (steps (sound_step bound v) n s).state) → (t : Step Sound Float) (s : Sound) → Fit v s → Fits v t
      → Fit v (onward t s (steps (sound_step bound v) n)).state
  fit_onward n h dry s f k = f
  fit_onward n h (one x u) s f k = h u k

  pub fit_run : (n : ℕ) (s : Sound) → Fit v s → Fit v (steps (sound_step bound v) n s).state
  unfolding steps
  fit_run zero s f = f
  fit_run (suc n) s f = fit_onward n (fit_run n) (sound_step bound v s) s f (fits_step s f)

-- what a run of the sound makes of the voice: its samples counted, and the frame closed where none is left
abbrev pub finished : Voice → Run Sound Float → Run Voice Float
finished v r = record { made = r.made; state = closed_at_end (counted (length r.made) (with_sound r.state v)); is_dry = r.is_dry }

module _ (bound : ℕ) where
  finished_on : (v : Voice) (x : Float) (s : Sound) (r : Run Sound Float) → Fit v s → Fit v r.state
      → joined (x ∷ []) (finished (counted 1 (with_sound s v)) r) ≡ finished v (joined (x ∷ []) r)
  finished_on v x s r f k = ap (λ (w : Voice). record { made = x ∷ r.made; state = closed_at_end w; is_dry = r.is_dry }) (counted_on v s f (length r.made) r.state k)

  after_one : (n : ℕ) (v : Voice) (x : Float) (s : Sound) → Long v → Fit v s → n < v.left
      → ((w : Voice) → Long w → 0 < w.left → n ≤ w.left → steps (step bound) n w ≡ finished w (steps (sound_step bound w) n (sound_of w)))
      → joined (x ∷ []) (steps (step bound) n (closed_at_end (counted 1 (with_sound s v)))) ≡ finished v (joined (x ∷ []) (steps (sound_step bound v) n s))
  unfolding steps
  after_one zero v x s l f h again = refl
  after_one (suc k) v x s l f h again =
      let w = counted 1 (with_sound s v) in
      let open_still : closed_at_end w ≡ w = rw (ne_eqb (v.left - 1) 0 (λ (e : v.left - 1 ≡ 0). absurd (omega arith))) refl in
      let run = again w (long_still v s f l) (omega arith) (omega arith) in
      rw open_still
      (ap (λ (r : Run Voice Float). joined (x ∷ []) r) (run ∙ ap (λ (t : Sound). finished w (steps (sound_step bound v) (suc k) t)) (got v s f))
      ∙ finished_on v x s (steps (sound_step bound v) (suc k) s) f (fit_run bound v (suc k) s f))

  by_step : (n : ℕ) (v : Voice) (t : Step Sound Float) → Long v → 0 < v.left → n < v.left → Fits v t
      → ((w : Voice) → Long w → 0 < w.left → n ≤ w.left → steps (step bound) n w ≡ finished w (steps (sound_step bound w) n (sound_of w)))
      → onward (stepped t v) v (steps (step bound) n) ≡ finished v (onward t (sound_of v) (steps (sound_step bound v) n))
  by_step n v dry l p h f again = ap (λ (w : Voice). stopped [] w) (sym (unmoved v l p))
  by_step n v (one x s) l p h f again = after_one n v x s l f h again

  -- THE LAW: so many samples of a frame, one by one, are so many of the sound, then counted.
  pub samples_are : (n : ℕ) (v : Voice) → Long v → 0 < v.left → n ≤ v.left → steps (step bound) n v ≡ finished v (steps (sound_step bound v) n (sound_of v))
  unfolding steps step
  samples_are zero v l p h = ap (λ (w : Voice). running [] w) (sym (unmoved v l p))
  samples_are (suc n) v l p h = by_step n v (sound_step bound v (sound_of v)) l p (omega arith) (fits_step bound v (sound_of v) (fit_now v l)) (samples_are n)
