-- No refusal has the number of a call that is done. Assumes nothing.
use mathlib.Core.Path.{◌≡◌, refl}
use Prim.Native.Nat.{ℕ, suc}
use Rattle.voice.specs.declared.answers.Refusal.{Refusal}
use Rattle.voice.specs.declared.answers.Refusal.TheVariants.{LimitBroken, VoiceIdle, SamplesLeft, SpectrumLength, TapCount, NotFinite, EntryBeyond, MeterFull, ArgumentOutside, NothingLeft, NoiseDry, RecordsLonger, RecordsWrong, BufferShort}
use Rattle.voice.specs.Answers.{number_of}

pub above_done : (e : Refusal) → (n : ℕ) × (number_of e ≡ suc n)
above_done LimitBroken = (0, refl)
above_done VoiceIdle = (1, refl)
above_done SamplesLeft = (2, refl)
above_done SpectrumLength = (3, refl)
above_done TapCount = (4, refl)
above_done NotFinite = (5, refl)
above_done EntryBeyond = (6, refl)
above_done MeterFull = (7, refl)
above_done ArgumentOutside = (8, refl)
above_done NothingLeft = (9, refl)
above_done NoiseDry = (10, refl)
above_done RecordsLonger = (11, refl)
above_done RecordsWrong = (12, refl)
above_done BufferShort = (13, refl)
