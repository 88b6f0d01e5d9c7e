-- A sample of the excitation: an f64, and the line stays one of f64s. Assumes nothing.
use mathlib.Core.List.{List, [], ◌∷◌}
use Prim.Native.Nat.{ℕ}
use lib.Dec.{eqb}
use lib.ListN.{length, drop}
use lib.Ieee.{Float, binary64}
use lib.Ieee.Fits.{add-fits}
use Rattle.number.specs.F64.{◌⊕◌, ◌⊖◌, ◌⊗◌, ◌‼◌, 0f}
use Rattle.history.specs.Steps.{Step, dry, one}
use Rattle.noise.specs.declared.Random.{Random}
use Rattle.noise.specs.Noise.{noise_of}
use Rattle.pulse.specs.declared.Pulse.{Pulse}
use Rattle.pulse.specs.Train.{voiced, pulse_of}
use Rattle.delay.specs.Line.{middle, with_noise, with_pulse, shifted}
use Rattle.excitation.specs.Excitation.{Excitation, following, pulse_alone, noise_alone, plain_step, mixed_line, mixed, mixed_step, step_of}
use Rattle.held.specs.Held.{Holds, AllHeld, HeldPulse}
use Rattle.held.proofs.OutcomesKeep.{either}
use Rattle.held.proofs.NoiseKeeps.{Made}
use Rattle.held.proofs.HeldLists.{zero_held, held_at, held_drop, held_append, held_set}
use Rattle.held.proofs.HeldSources.{HeldNoise, pulse_held, after_held, noise_held}

-- ---- the line

with_noise_lem : (x : Float) (l : List Float) → AllHeld l → AllHeld (with_noise x l)
unfolding with_noise
with_noise_lem x l h = held_set l (middle l) (l ‼ middle l ⊕ x) (add-fits binary64 (l ‼ middle l) x) h

with_pulse_lem : (c : Float) (lpf l : List Float) → AllHeld l → AllHeld (with_pulse c lpf l)
unfolding with_pulse
with_pulse_lem c [] l h = h
with_pulse_lem c (t ∷ lpf) [] h = tt
with_pulse_lem c (t ∷ lpf) (x ∷ l) h = (add-fits binary64 x (c ⊗ t), with_pulse_lem c lpf l h.1)

shifted_held : (l : List Float) → AllHeld l → AllHeld (shifted l)
unfolding shifted
shifted_held l h = held_append (drop 1 l) (0f ∷ []) (held_drop 1 l h) (zero_held, tt)

mixed_line_lem : (pulse : Pulse) (noise : Float) (lpf l : List Float) → AllHeld l → AllHeld (mixed_line pulse noise lpf l)
unfolding mixed_line
mixed_line_lem pulse noise lpf l h =
    let k = with_noise_lem noise l h in
    let c = (pulse_of pulse).sample ⊖ noise in
    either AllHeld (voiced pulse.pitch) (with_pulse c lpf (with_noise noise l)) (with_noise noise l) (with_pulse_lem c lpf (with_noise noise l) k) k

-- ---- a sample

pub record HeldExcitation (s : Excitation) : Type 0 where
  pub pulse : HeldPulse s.pulse
  pub queue : AllHeld s.random.queue
  pub line : AllHeld s.line

abbrev pub HeldSample : Step Excitation Float → Type 0
HeldSample t = Made Holds HeldExcitation t

module _ (lpf : List Float) (s : Excitation) (h : HeldExcitation s) where
  noise_alone_lem : (t : Step Random Float) → HeldNoise t → HeldSample (following t (noise_alone s))
  noise_alone_lem dry k = tt
  noise_alone_lem (one x r) k = (k.0, record { pulse = h.pulse; queue = k.1; line = h.line })

  noise_mixed : (t : Step Random Float) → HeldNoise t → HeldSample (following t (mixed lpf s))
  noise_mixed dry k = tt
  noise_mixed (one x r) k =
      let l = mixed_line s.pulse x lpf s.line in
      let m : AllHeld l = mixed_line_lem s.pulse x lpf s.line h.line in
      (held_at l 0 m, record { pulse = after_held s.pulse h.pulse; queue = k.1; line = shifted_held l m })

  pub sample_held : (bound : ℕ) → HeldSample (step_of bound lpf s)
  unfolding step_of plain_step mixed_step
  sample_held bound =
      let p = pulse_held s.pulse h.pulse in
      let k = noise_held bound s.random h.queue in
      let noise = noise_of bound s.random in
      either HeldSample (eqb (length s.line) 0) (plain_step bound s) (mixed_step bound lpf s)
      (either HeldSample (voiced s.pulse.pitch) (pulse_alone s) (following noise (noise_alone s)) (p.sample, record { pulse = p.pulse; queue = h.queue; line = h.line }) (noise_alone_lem noise k))
      (noise_mixed noise k)
