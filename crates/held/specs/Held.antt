-- Voices and frames that hold f64s alone: the logic's floats are more. Assumes nothing.
use Rattle.std.specs.Prelude.{◌≡◌, refl, false, List, [], ◌∷◌, pos, T, Float}
use Rattle.std.specs.Float.{fin, binary64}
use Rattle.std.specs.Float.Ieee.{fits}
use Rattle.pulse.specs.declared.Pulse.{Pulse}
use Rattle.mlsa.specs.declared.MelLogSpectrumApproximation.{MelLogSpectrumApproximation}
use Rattle.configuration.specs.declared.Configuration.{Configuration}
use Rattle.voice.specs.declared.Voice.{Voice}
use Rattle.refusing.specs.Refusal.{Frame}

-- x is an f64
abbrev pub Holds : Float → Type 0
Holds x = T (fits binary64 x)

-- and so is every entry
abbrev pub AllHeld : List Float → Type 0
AllHeld [] = Unit {0}
AllHeld (x ∷ l) = Holds x × AllHeld l

-- 3 is an f64; an even 6 is none, since 6 is written as 3 times 2
pub three_held : AllHeld (fin false 3 (pos 0) ∷ [])
unfolding fits
three_held = (tt, tt)

pub six_not_held : fits binary64 (fin false 6 (pos 0)) ≡ false
unfolding fits
six_not_held = refl

-- ---- the parts of a voice

pub record HeldConfiguration (c : Configuration) : Type 0 where
  pub alpha : Holds c.alpha
  pub beta : Holds c.beta
  pub volume : Holds c.volume
  pub nodata : Holds c.nodata
  pub low : Holds c.low
  pub high : Holds c.high

pub record HeldPulse (p : Pulse) : Type 0 where
  pub pitch : Holds p.pitch
  pub counter : Holds p.counter
  pub increment : Holds p.increment
  pub end : Holds p.end

pub record HeldTaps (f : MelLogSpectrumApproximation) : Type 0 where
  pub d11 : AllHeld f.d11
  pub d12 : AllHeld f.d12
  pub d21 : AllHeld f.d21
  pub d22 : AllHeld f.d22

-- EVERY FLOAT OF A VOICE
pub record Held (v : Voice) : Type 0 where
  pub configuration : HeldConfiguration v.configuration
  pub pulse : HeldPulse v.pulse
  pub line : AllHeld v.line
  pub lpf : AllHeld v.lpf
  pub queue : AllHeld v.random.queue
  pub coefficients : AllHeld v.coefficients
  pub increments : AllHeld v.increments
  pub targets : AllHeld v.targets
  pub zero : HeldTaps v.zero
  pub nonzero : AllHeld v.nonzero.d

-- and of a frame
pub record HeldFrame (f : Frame) : Type 0 where
  pub lf0 : Holds f.lf0
  pub spectrum : AllHeld f.spectrum
  pub lpf : AllHeld f.lpf
