-- The numbers of the refusals, those of `bindings/c/kipawnore.h`. Assumes nothing.
use Rattle.std.specs.Prelude.{ℕ}
use Rattle.riff.specs.declared.refusal.Refusal.{Refusal}
use Rattle.riff.specs.declared.refusal.Refusal.TheVariants.{LimitBroken, NotSoundFile, ChunkPastEnd, TooLong, RoomShort}

abbrev pub number_of : Refusal → ℕ
number_of LimitBroken = 1
number_of NotSoundFile = 20
number_of ChunkPastEnd = 21
number_of TooLong = 22
number_of RoomShort = 23
