-- What the calls answer: done, or a refusal, each with its number. Assumes nothing.
use Rattle.std.specs.Prelude.{ℕ, Result, Ok, Err}
use Rattle.history.specs.Numbers as numbers
use Rattle.voice.specs.declared.answers.Refusal.{Refusal}
use Rattle.voice.specs.declared.answers.Refusal.TheVariants.{LimitBroken, VoiceIdle, SamplesLeft, SpectrumLength, TapCount, NotFinite, EntryBeyond, MeterFull, ArgumentOutside, NothingLeft, NoiseDry, RecordsLonger, RecordsWrong, BufferShort}

-- THE NUMBER of a refusal, as the table has it
abbrev pub number_of : Refusal → ℕ
number_of LimitBroken = numbers.limit_broken
number_of VoiceIdle = numbers.voice_idle
number_of SamplesLeft = numbers.samples_left
number_of SpectrumLength = numbers.spectrum_length
number_of TapCount = numbers.tap_count
number_of NotFinite = numbers.not_finite
number_of EntryBeyond = numbers.entry_beyond
number_of MeterFull = numbers.meter_full
number_of ArgumentOutside = numbers.argument_outside
number_of NothingLeft = numbers.nothing_left
number_of NoiseDry = numbers.noise_dry
number_of RecordsLonger = numbers.records_longer
number_of RecordsWrong = numbers.records_wrong
number_of BufferShort = numbers.buffer_short

-- and of an outcome: 0 where the call is done
abbrev pub number_for : {A : Type 0} → Result A Refusal → ℕ
number_for (Ok a) = numbers.done
number_for (Err refusal) = number_of refusal
