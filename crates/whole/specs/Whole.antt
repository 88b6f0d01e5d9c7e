-- Whole frame. Assumes nothing.
use Rattle.std.specs.Prelude.{◌≡◌, List, ℕ, ◌-◌, length, Float}
use Rattle.history.specs.Machine.{Answer, whole, whole_refusal}
use Rattle.noise.specs.Draw.{tries}
use Rattle.voice.specs.declared.Voice.{Voice}
use Rattle.refusing.specs.Refusal.{Frame}
use Rattle.drawing.specs.declared.Drawn.{Drawn}
use Rattle.drawing.specs.Draw.{voice_of, room_from, placed}

-- what comes before give's numbers, for a buffer of so many samples
abbrev pub short_of : Voice → (len start : ℕ) → ℕ
short_of v len start = whole_refusal (voice_of tries) (len - start) v

-- what whole frame answers by the definition
abbrev pub rendered : Frame → Voice → List Float → ℕ → Answer Voice Float
rendered f v out start = whole (voice_of tries) f (room_from start out) v

-- WHAT WHOLE FRAME PROMISES of its answer, and of the buffer after it
pub record Renders (f : Frame) (v : Voice) (out : List Float) (start : ℕ) (r : Drawn) (after : List Float) : Type 0 where
  pub number : r.number ≡ (rendered f v out start).number
  pub made : r.made ≡ length (rendered f v out start).made
  pub voice : r.voice ≡ (rendered f v out start).state
  pub buffer : after ≡ placed start (rendered f v out start).made out
