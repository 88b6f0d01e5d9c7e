-- One sample, case by case. Assumes nothing.
use mathlib.Core.Path.{◌≡◌, refl, sym, ◌∙◌}
use mathlib.Core.List.{List}
use mathlib.Core.Bool.{true, false}
use Prim.Native.Nat.{ℕ}
use lib.Dec.{eqb}
use lib.Ieee.{Float}
use lib.ListN.{length}
use Rattle.number.specs.F64.{◌⊖◌, ◌‼◌}
use Rattle.std.specs.Prelude.{Option, None, Some}
use Rattle.history.specs.Steps.{dry, one}
use Rattle.noise.specs.declared.Random.{Random}
use Rattle.noise.specs.Noise.{noise_of, taken_of}
use Rattle.pulse.specs.declared.Pulse.{Pulse}
use Rattle.pulse.specs.declared.Pulsed.{Pulsed}
use Rattle.pulse.specs.Train.{voiced, pulse_of, pulse_after}
use Rattle.delay.specs.Line.{with_noise, with_pulse, shifted}
use Rattle.excitation.specs.Excitation.{Excitation, state, sampled_of, pulse_alone, plain_step, mixed_line, mixed, mixed_step, step_of}

module _ (bound : ℕ) (s : Excitation) where
  -- ---- with nlpf 0
  pub plain_pulse : voiced s.pulse.pitch ≡ true → pulse_alone s ≡ plain_step bound s
  unfolding plain_step
  plain_pulse v = rw v refl

  -- by what `nrandom` answers
  pub plain_taken : (r : Option Float) (z : Random) → voiced s.pulse.pitch ≡ false → taken_of r z ≡ noise_of bound s.random → sampled_of r (state s.pulse z s.line) ≡ plain_step bound s
  unfolding plain_step
  plain_taken None z v e = rw (v, ← e) refl
  plain_taken (Some noise) z v e = rw (v, ← e) refl

  -- ---- with more
  pub mixed_noise : (lpf : List Float) (noise : Float) (z : Random) → one noise z ≡ noise_of bound s.random → mixed lpf s noise z ≡ mixed_step bound lpf s
  unfolding mixed_step
  mixed_noise lpf noise z e = rw (← e) refl

  -- by what `mix` answers
  pub mixed_made : (lpf out : List Float) (noise x : Float) (z : Random) (p : Pulse) → one noise z ≡ noise_of bound s.random
      → x ≡ mixed_line s.pulse noise lpf s.line ‼ 0 → p ≡ pulse_after s.pulse → out ≡ mixed_line s.pulse noise lpf s.line
      → one x (state p z (shifted out)) ≡ mixed_step bound lpf s
  mixed_made lpf out noise x z p e ex ep eo = rw (ex, ep, eo) (mixed_noise lpf noise z e)

  pub mixed_dry : (lpf : List Float) → dry ≡ noise_of bound s.random → dry ≡ mixed_step bound lpf s
  unfolding mixed_step
  mixed_dry lpf e = rw (← e) refl

  -- ---- which of the two it is
  pub step_plain : (lpf : List Float) → eqb (length s.line) 0 ≡ true → plain_step bound s ≡ step_of bound lpf s
  unfolding step_of
  step_plain lpf e = rw e refl

  pub step_mixed : (lpf : List Float) → eqb (length s.line) 0 ≡ false → mixed_step bound lpf s ≡ step_of bound lpf s
  unfolding step_of
  step_mixed lpf e = rw e refl

-- ---- the line and the pulse train, voiced and not
module _ (pulse : Pulse) where
  pub line_voiced : (noise : Float) (lpf line : List Float) → voiced pulse.pitch ≡ true → mixed_line pulse noise lpf line ≡ with_pulse ((pulse_of pulse).sample ⊖ noise) lpf (with_noise noise line)
  unfolding mixed_line
  line_voiced noise lpf line v = rw v refl

  pub line_unvoiced : (noise : Float) (lpf line : List Float) → voiced pulse.pitch ≡ false → mixed_line pulse noise lpf line ≡ with_noise noise line
  unfolding mixed_line
  line_unvoiced noise lpf line v = rw v refl

  pub after_voiced : voiced pulse.pitch ≡ true → pulse_after pulse ≡ (pulse_of pulse).pulse
  unfolding pulse_after
  after_voiced v = rw v refl

  pub after_unvoiced : voiced pulse.pitch ≡ false → pulse_after pulse ≡ pulse
  unfolding pulse_after
  after_unvoiced v = rw v refl

  -- what `mix` makes of its steps, by what each of them answers
  pub mix_voiced : (noise : Float) (lpf line noisy both : List Float) (p : Pulsed)
      → voiced pulse.pitch ≡ true → noisy ≡ with_noise noise line → p ≡ pulse_of pulse → both ≡ with_pulse (p.sample ⊖ noise) lpf noisy
      → (◌≡◌ {A = Pulsed} (record { sample = both ‼ 0; pulse = p.pulse }) (record { sample = mixed_line pulse noise lpf line ‼ 0; pulse = pulse_after pulse })) × (both ≡ mixed_line pulse noise lpf line)
  mix_voiced noise lpf line noisy both p v ew ep eb =
      let all : both ≡ mixed_line pulse noise lpf line = eb ∙ rw (ep, ew) (sym (line_voiced noise lpf line v)) in
      (rw (all, ep, after_voiced v) refl, all)
