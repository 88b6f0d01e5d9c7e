-- A sample keeps the number of the line's taps and of the coefficients. Assumes nothing.
use mathlib.Core.Path.{◌≡◌, refl, sym, ◌∙◌, ap}
use mathlib.Core.Bool.{Bool, true, false, false≢true}
use mathlib.Core.List.{List, [], ◌∷◌}
use Prim.Native.Nat.{ℕ, zero, suc, ◌<◌}
use native.Mathlib.Omega.{arith}
use lib.Dec.{eqb}
use lib.ListN.{length, length-set, length-append, length-drop}
use lib.Ieee.{Float}
use Rattle.number.specs.F64.{◌⊖◌}
use Rattle.history.specs.Steps.{Step, dry, one}
use Rattle.noise.specs.declared.Random.{Random}
use Rattle.noise.specs.Noise.{noise_of}
use Rattle.pulse.specs.declared.Pulse.{Pulse}
use Rattle.pulse.specs.Train.{voiced, pulse_of}
use Rattle.delay.specs.Line.{with_noise, with_pulse, shifted}
use Rattle.vectors.specs.Vectors.{plus}
use Rattle.excitation.specs.Excitation.{Excitation, following, noise_alone, mixed, plain_step, mixed_step, mixed_line, step_of}
use Rattle.filter.specs.Sample.{sample_by}
use Rattle.configuration.specs.declared.Configuration.{Configuration}
use Rattle.drawing.specs.Step.{Filters, turn_of}

-- ---- the line

length_pulse : (c : Float) (lpf line : List Float) → length (with_pulse c lpf line) ≡ length line
unfolding with_pulse
length_pulse c [] line = refl
length_pulse c (h ∷ lpf) [] = refl
length_pulse c (h ∷ lpf) (tap ∷ line) = ap suc (length_pulse c lpf line)

length_noise : (x : Float) (line : List Float) → length (with_noise x line) ≡ length line
unfolding with_noise
length_noise x line = length-set line _ _

length_mixed : (pulse : Pulse) (noise : Float) (lpf line : List Float) → length (mixed_line pulse noise lpf line) ≡ length line
unfolding mixed_line
length_mixed pulse noise lpf line = go (voiced pulse.pitch) refl
  where
    go : (b : Bool) → voiced pulse.pitch ≡ b → length (mixed_line pulse noise lpf line) ≡ length line
    go true e = rw e (length_pulse ((pulse_of pulse).sample ⊖ noise) lpf (with_noise noise line) ∙ length_noise noise line)
    go false e = rw e (length_noise noise line)

length_shifted : (l : List Float) → 0 < length l → length (shifted l) ≡ length l
unfolding shifted
length_shifted l h = simp (length-append, length-drop) (omega arith)

-- a step whose line has n taps
abbrev pub Taps : ℕ → Step Excitation Float → Type 0
Taps n dry = Unit {0}
Taps n (one x e) = length e.line ≡ n

taps_noise : (s : Excitation) (t : Step Random Float) → Taps (length s.line) (following t (noise_alone s))
taps_noise s dry = tt
taps_noise s (one x r) = refl

taps_plain : (bound : ℕ) (s : Excitation) → Taps (length s.line) (plain_step bound s)
unfolding plain_step
taps_plain bound s = go (voiced s.pulse.pitch) refl
  where
    go : (b : Bool) → voiced s.pulse.pitch ≡ b → Taps (length s.line) (plain_step bound s)
    go true e = rw e refl
    go false e = rw e (taps_noise s (noise_of bound s.random))

taps_mixed : (lpf : List Float) (s : Excitation) (t : Step Random Float) → 0 < length s.line → Taps (length s.line) (following t (mixed lpf s))
taps_mixed lpf s dry h = tt
taps_mixed lpf s (one x r) h =
    let n = length_mixed s.pulse x lpf s.line in
    length_shifted (mixed_line s.pulse x lpf s.line) (omega (arith, n, h)) ∙ n

pub taps_kept : (bound : ℕ) (lpf : List Float) (s : Excitation) → Taps (length s.line) (step_of bound lpf s)
unfolding step_of mixed_step
taps_kept bound lpf s = go (eqb (length s.line) 0) refl
  where
    go : (b : Bool) → eqb (length s.line) 0 ≡ b → Taps (length s.line) (step_of bound lpf s)
    go true e = rw e (taps_plain bound s)
    go false e = rw e (taps_mixed lpf s (noise_of bound s.random) (some (length s.line) e))
      where
        some : (n : ℕ) → eqb n 0 ≡ false → 0 < n
        some zero z = absurd (false≢true (sym z))
        some (suc n) z = omega arith

-- ---- the coefficients

length_plus : (l m : List Float) → length (plus l m) ≡ length l
unfolding plus
length_plus [] m = refl
length_plus (x ∷ l) [] = refl
length_plus (x ∷ l) (y ∷ m) = ap suc (length_plus l m)

pub entries_kept : (c : Configuration) (increments : List Float) (f : Filters) (x : Float) → length (turn_of c increments f x).state.c ≡ length f.c
unfolding turn_of sample_by
entries_kept c increments f x = go (eqb c.stage 0) refl
  where
    go : (b : Bool) → eqb c.stage 0 ≡ b → length (turn_of c increments f x).state.c ≡ length f.c
    go true e = rw e (length_plus f.c increments)
    go false e = rw e (length_plus f.c increments)
