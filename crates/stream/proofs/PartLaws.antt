-- A sample taken apart: the excitation that it comes from, and the voice that is made of it. Assumes nothing.
use mathlib.Core.Path.{◌≡◌, refl, subst}
use mathlib.Core.Bool.{Bool, true, false}
use Prim.Native.Nat.{ℕ, ◌≤◌}
use mathlib.Core.List.{List}
use native.Mathlib.Omega.{arith}
use lib.Dec.{eqb, ltb}
use lib.ListN.{length}
use lib.Ieee.{Float}
use borrow.Author.Tests.{ltb-true}
use Rattle.history.specs.Steps.{Step, dry, one}
use Rattle.history.specs.Feeding.{feeding, turned_by}
use Rattle.noise.specs.declared.Random.{Random}
use Rattle.noise.specs.Noise.{take_first, filling_of, noise_of}
use Rattle.pulse.specs.Train.{voiced}
use Rattle.excitation.specs.Excitation.{Excitation, following, pulse_alone, noise_alone, plain_step, mixed, mixed_step, step_of}
use Rattle.voice.specs.declared.Voice.{Voice}
use Rattle.drawing.specs.Step.{taps_of, increments_of, excitation_of, filters_of, with_sound, counted, closed, closed_at_end, turn_of, stepped, step}
use Rattle.held.proofs.OutcomesKeep.{either}
use Rattle.held.proofs.NoiseKeeps.{Made}

-- the state after a step is such, where there is one
abbrev pub After : {State Sample : Type 0} → (State → Type 0) → Step State Sample → Type 0
After P dry = Unit {0}
After P (one x s) = P s

pub after_made : {State Sample : Type 0} (P : Sample → Type 0) (Q : State → Type 0) (t : Step State Sample) → Made P Q t → After Q t
after_made P Q dry h = tt
after_made P Q (one x s) h = h.1

-- ---- the voice

-- the voice with a sample x of the excitation turned by the filter, before the frame's end,
abbrev pub turned : Voice → Float → Excitation → Voice
turned v x e = counted 1 (with_sound (feeding e (turn_of v.configuration (increments_of v) (filters_of v) x).state) v)

-- and after it
abbrev pub after : Voice → Float → Excitation → Voice
after v x e = closed_at_end (turned v x e)

pub at_end : (P : Voice → Type 0) (v : Voice) → P v → P (closed v) → P (closed_at_end v)
at_end P v h k = either P (eqb v.left 0) (closed v) v k h

module _ (P : Voice → Type 0) (Q : Excitation → Type 0) (v : Voice) (each : (x : Float) (e : Excitation) → Q e → P (after v x e)) where
  by_excitation : (t : Step Excitation Float) → After Q t → After P (stepped (turned_by (turn_of v.configuration (increments_of v)) t (filters_of v)) v)
  by_excitation dry h = tt
  by_excitation (one x e) h = each x e h

  -- what holds after every excitation that is such holds after a step
  pub after_step : (bound : ℕ) (t : Voice) (x : Float) → After Q (step_of bound (taps_of v) (excitation_of v)) → step bound v ≡ one x t → P t
  unfolding step
  after_step bound t x h e = subst (λ (s : Step Voice Float). After P s) e (by_excitation (step_of bound (taps_of v) (excitation_of v)) h)

-- ---- the noise in the excitation

module _ (P : Random → Type 0) where
  abbrev Noise : Excitation → Type 0
  Noise e = P e.random

  noise_alone_lem : (s : Excitation) (t : Step Random Float) → After P t → After Noise (following t (noise_alone s))
  noise_alone_lem s dry h = tt
  noise_alone_lem s (one x r) h = h

  noise_mixed : (lpf : List Float) (s : Excitation) (t : Step Random Float) → After P t → After Noise (following t (mixed lpf s))
  noise_mixed lpf s dry h = tt
  noise_mixed lpf s (one x r) h = h

  -- it is as it was, or as after one value
  pub noise_after : (bound : ℕ) (lpf : List Float) (s : Excitation) → P s.random → After P (noise_of bound s.random) → After Noise (step_of bound lpf s)
  unfolding step_of plain_step mixed_step
  noise_after bound lpf s h k =
      let t = noise_of bound s.random in
      either (After Noise) (eqb (length s.line) 0) (plain_step bound s) (mixed_step bound lpf s)
      (either (After Noise) (voiced s.pulse.pitch) (pulse_alone s) (following t (noise_alone s)) h (noise_alone_lem s t k))
      (noise_mixed lpf s t k)

-- ---- at most 64 values are used

abbrev pub Few : Random → Type 0
Few r = r.used ≤ 64

first_few : (t : Step ℕ (List Float)) → After Few (take_first t)
first_few dry = tt
first_few (one queue next) = omega arith

pub noise_few : (bound : ℕ) (z : Random) → After Few (noise_of bound z)
unfolding noise_of
noise_few bound z = go (ltb z.used 64) refl
  where
    go : (b : Bool) → ltb z.used 64 ≡ b → After Few (noise_of bound z)
    go true e = rw e (omega (arith, ltb-true z.used 64 e))
    go false e = rw e (first_few (filling_of bound z.next))
