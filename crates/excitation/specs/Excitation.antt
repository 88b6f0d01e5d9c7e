-- The excitation, sample by sample: the state in, and a sample with the state after it, or dry. Assumes nothing.
use Rattle.std.specs.Prelude.{List, cond, ℕ, eqb, length, Float, Option, None, Some}
use Rattle.number.specs.F64.{◌⊖◌, ◌‼◌}
use Rattle.history.specs.Steps.{Step, dry, one, Run, steps}
use Rattle.noise.specs.declared.Random.{Random}
use Rattle.noise.specs.Noise.{noise_of}
use Rattle.pulse.specs.declared.Pulse.{Pulse}
use Rattle.pulse.specs.Train.{voiced, pulse_of, pulse_after}
use Rattle.delay.specs.Line.{with_noise, with_pulse, shifted}

-- the pulse train, the noise and the delay line
pub record Excitation : Type 0 where
  pub pulse : Pulse
  pub random : Random
  pub line : List Float

abbrev pub state : Pulse → Random → List Float → Excitation
state pulse random line = record { pulse = pulse; random = random; line = line }

-- where a value of the noise can be had, what is made of it
abbrev pub following : Step Random Float → (Float → Random → Step Excitation Float) → Step Excitation Float
following dry made = dry
following (one noise random) made = made noise random

-- With nlpf 0 the sample is the pulse where the pitch is not 0, and no noise is used; else the noise.
abbrev pub pulse_alone : Excitation → Step Excitation Float
pulse_alone s = let p = pulse_of s.pulse in one p.sample (state p.pulse s.random s.line)

abbrev pub noise_alone : Excitation → Float → Random → Step Excitation Float
noise_alone s noise random = one noise (state s.pulse random s.line)

unfoldable pub plain_step : ℕ → Excitation → Step Excitation Float
plain_step bound s = cond (voiced s.pulse.pitch) (pulse_alone s) (following (noise_of bound s.random) (noise_alone s))

-- With more, the noise goes to the line, and where the pitch is not 0, (pulse - noise) * lpf[k] to each tap k,
unfoldable pub mixed_line : Pulse → Float → List Float → List Float → List Float
mixed_line pulse noise lpf line =
    cond (voiced pulse.pitch) (with_pulse ((pulse_of pulse).sample ⊖ noise) lpf (with_noise noise line)) (with_noise noise line)

-- and tap 0 goes out.
abbrev pub mixed : List Float → Excitation → Float → Random → Step Excitation Float
mixed lpf s noise random =
    let line = mixed_line s.pulse noise lpf s.line in
    one (line ‼ 0) (state (pulse_after s.pulse) random (shifted line))

unfoldable pub mixed_step : ℕ → List Float → Excitation → Step Excitation Float
mixed_step bound lpf s = following (noise_of bound s.random) (mixed lpf s)

-- ONE SAMPLE, with the taps lpf and a bound on the tries for a pair of noise values
unfoldable pub step_of : ℕ → List Float → Excitation → Step Excitation Float
step_of bound lpf s = cond (eqb (length s.line) 0) (plain_step bound s) (mixed_step bound lpf s)

-- A STRETCH of n samples, or of as many as can be had
abbrev pub stretch_of : ℕ → List Float → ℕ → Excitation → Run Excitation Float
stretch_of bound lpf n s = steps (step_of bound lpf) n s

-- what `get` answers, beside the state that it leaves, as that step
abbrev pub sampled_of : Option Float → Excitation → Step Excitation Float
sampled_of None after = dry
sampled_of (Some x) after = one x after
