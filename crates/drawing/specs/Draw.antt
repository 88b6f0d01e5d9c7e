-- The voice as a machine, and draw. Assumes nothing.
use Rattle.std.specs.Prelude.{◌≡◌, cond, List, ◌++◌, ℕ, ◌+◌, ◌-◌, ltb, length, take, drop, Float}
use Rattle.history.specs.Numbers.{done, noise_dry}
use Rattle.history.specs.Machine.{Machine, Answer, drew}
use Rattle.noise.specs.Draw.{tries}
use Rattle.voice.specs.declared.Voice.{Voice}
use Rattle.voice.specs.Voice.{idle}
use Rattle.refusing.specs.Refusal.{Frame}
use Rattle.giving.specs.Give.{refusal, given}
use Rattle.drawing.specs.declared.Drawn.{Drawn}
use Rattle.drawing.specs.Step.{step}

-- THE VOICE: what give refuses and makes, and one sample, with a bound on the tries for a pair of noise values
abbrev pub voice_of : ℕ → Machine
voice_of bound = record {
  State = Voice;
  Frame = Frame;
  Sample = Float;
  idle = idle;
  fperiod = λ v. v.configuration.fperiod;
  left = λ v. v.left;
  refusal = refusal;
  given = given;
  step = step bound;
}

-- the room from `start` on: none where it is past the end
abbrev pub room_from : ℕ → List Float → ℕ
room_from start out = length out - start

-- the samples in their place, and everything outside as it was
abbrev pub placed : ℕ → List Float → List Float → List Float
placed start made out = take start out ++ (made ++ drop (start + length made) out)

-- the number for so many samples of those asked for: where some are missing, the noise is dry
abbrev pub number_for : (made count : ℕ) → ℕ
number_for made count = cond (ltb made count) noise_dry done

-- what draw answers by the definition
abbrev pub drawn : Voice → List Float → ℕ → Answer Voice Float
drawn v out start = drew (voice_of tries) (room_from start out) v

-- WHAT DRAW PROMISES of its answer, and of the buffer after it
pub record Draws (v : Voice) (out : List Float) (start : ℕ) (r : Drawn) (after : List Float) : Type 0 where
  pub number : r.number ≡ (drawn v out start).number
  pub made : r.made ≡ length (drawn v out start).made
  pub voice : r.voice ≡ (drawn v out start).state
  pub buffer : after ≡ placed start (drawn v out start).made out
