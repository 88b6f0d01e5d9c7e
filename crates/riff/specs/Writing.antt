-- A sound file, byte by byte, and what writing one answers. Document 02, L4: "RIFF WAVE, PCM, one channel, 16 bits"; "the 24-bit form"; "lengths that don't fit the 32-bit size
-- fields are refused before any byte"; "22 too long, 23 buffer short; 22 before 23 in writing". Assumes nothing.
use Rattle.std.specs.Prelude.{Option, None, Some, Result, Ok, Err, ◌≡◌, refl, Bool, false, ◌||◌, cond, List, [], ◌∷◌, ◌++◌, ℕ, zero, suc, ◌+◌, ◌*◌, ◌%◌, ◌^◌, leb, ltb, eqb, length, Float, pos}
use Rattle.std.specs.Float.{nan, fin}
use Rattle.std.specs.Float.Ieee.{mul}
use Rattle.number.specs.Bytes.{bytes_of}
use Rattle.pcm.specs.Sample.{rounded_to, is_past, is_held, word_of}
use Rattle.pcm.specs.Samples.{bytes_of_all, count}
use Rattle.riff.specs.declared.writing.Width.{Width}
use Rattle.riff.specs.declared.writing.Width.TheVariants.{Sixteen, TwentyFour}
use Rattle.riff.specs.declared.writing.Written.{Written}
use Rattle.riff.specs.declared.refusal.Refusal.{Refusal}
use Rattle.riff.specs.declared.refusal.Refusal.TheVariants.{LimitBroken, TooLong, RoomShort}
use Rattle.riff.specs.Refusal.{number_of}
use Rattle.riff.specs.Left.{left}

-- ---- the width

-- the bytes of a sample, its bits, and the width that has so many
abbrev pub bytes_in : Width → ℕ
bytes_in Sixteen = 2
bytes_in TwentyFour = 3

abbrev pub bits_in : Width → ℕ
bits_in Sixteen = 16
bits_in TwentyFour = 24

abbrev pub asked_of : ℕ → Option Width
asked_of bits = cond (eqb bits 16) (Some Sixteen) (cond (eqb bits 24) (Some TwentyFour) None)

-- a sample's bits, and whether it is held back
abbrev pub word_in : Width → Float → ℕ
word_in width = word_of (bits_in width)

abbrev pub held_in : Width → Float → Bool
held_in width = is_held (bits_in width)

-- ---- the file

-- the letters of the tags
abbrev pub RIFF : List ℕ
RIFF = 82 ∷ 73 ∷ 70 ∷ 70 ∷ []

abbrev pub WAVE : List ℕ
WAVE = 87 ∷ 65 ∷ 86 ∷ 69 ∷ []

abbrev pub fmt : List ℕ
fmt = 102 ∷ 109 ∷ 116 ∷ 32 ∷ []

abbrev pub data' : List ℕ
data' = 100 ∷ 97 ∷ 116 ∷ 97 ∷ []

-- a field of two bytes, and one of four
abbrev pub u16 : ℕ → List ℕ
u16 v = bytes_of 2 v

abbrev pub u32 : ℕ → List ℕ
u32 v = bytes_of 4 v

-- many of four
unfoldable pub bytes_of_words : List ℕ → List ℕ
bytes_of_words [] = []
bytes_of_words (v ∷ l) = u32 v ++ bytes_of_words l

-- the length of a chunk's content with its pad
abbrev pub padded : ℕ → ℕ
padded n = n + n % 2

-- The header for n samples: the whole file's size but for its first 8 bytes; PCM, one channel, samples a second, bytes a second, bytes a sample, bits a sample; the
-- bytes of the samples, without the pad.
unfoldable pub header_of : Width → ℕ → ℕ → List ℕ
header_of width rate n =
    RIFF ++ u32 (36 + padded (bytes_in width * n)) ++ WAVE
    ++ fmt ++ u32 16 ++ u16 1 ++ u16 1 ++ u32 rate ++ u32 (bytes_in width * rate) ++ u16 (bytes_in width) ++ u16 (bits_in width)
    ++ data' ++ u32 (bytes_in width * n)

-- the samples' bytes
abbrev pub sound_of : Width → List Float → List ℕ
sound_of width samples = bytes_of_all (bytes_in width) (word_in width) samples

-- a 0 after an odd length
unfoldable pub zeros : ℕ → List ℕ
zeros zero = []
zeros (suc n) = 0 ∷ zeros n

abbrev pub pad_of : ℕ → List ℕ
pad_of n = zeros (n % 2)

unfoldable pub file_of : Width → ℕ → List Float → List ℕ
file_of width rate samples = header_of width rate (length samples) ++ sound_of width samples ++ pad_of (bytes_in width * length samples)

-- ---- what writing answers

abbrev pub refused : ℕ → Written
refused number = record { number = number; bytes = 0; held = 0 }

-- a file of n samples: refused where the rate is outside document 01's limits, and where the size in the header does not fit 32 bits
unfoldable pub refusal_of : Width → ℕ → ℕ → Result (Unit {0}) Refusal
refusal_of width rate n =
    cond (ltb rate 1 || ltb 192000 rate) (Err LimitBroken)
    (cond (leb (2 ^ 32) (36 + padded (bytes_in width * n))) (Err TooLong)
    (Ok tt))

-- what comes next, where it is not refused
abbrev pub unless : Result (Unit {0}) Refusal → Written → Written
unless (Ok _) next = next
unless (Err r) next = refused (number_of r)

-- where there is room for the bytes they are written, and else it is refused
abbrev pub room_for : ℕ → ℕ → ℕ → Written
room_for room bytes held = cond (ltb room bytes) (refused (number_of RoomShort)) (record { number = 0; bytes = bytes; held = held })

-- the header of n samples, a part of them, the pad, and the whole file, with `room` bytes lent
abbrev pub header_answer : Width → ℕ → ℕ → ℕ → Written
header_answer width rate n room = unless (refusal_of width rate n) (room_for room 44 0)

abbrev pub part_answer : Width → List Float → ℕ → Written
part_answer width samples room = room_for room (bytes_in width * length samples) (count (held_in width) samples)

abbrev pub pad_answer : Width → ℕ → ℕ → Written
pad_answer width n room = room_for room (bytes_in width * n % 2) 0

abbrev pub file_answer : Width → ℕ → List Float → ℕ → Written
file_answer width rate samples room =
    unless (refusal_of width rate (length samples)) (room_for room (44 + padded (bytes_in width * length samples)) (count (held_in width) samples))

-- What a call promises: its answer, and every byte of the buffer afterwards, where `made` is what it writes.
pub record Writes (answer : Written) (made out : List ℕ) (r : Written) (after : List ℕ) : Type 0 where
  pub told : r ≡ answer
  pub buffer : after ≡ left answer.number made out

-- ---- computed

-- two samples at 24 bits and 8000 a second: 1, and the NaN
pub small_file : file_of TwentyFour 8000 (fin false 1 (pos 0) ∷ nan ∷ []) ≡
    82 ∷ 73 ∷ 70 ∷ 70 ∷ 42 ∷ 0 ∷ 0 ∷ 0 ∷ 87 ∷ 65 ∷ 86 ∷ 69 ∷ 102 ∷ 109 ∷ 116 ∷ 32 ∷ 16 ∷ 0 ∷ 0 ∷ 0 ∷ 1 ∷ 0 ∷ 1 ∷ 0 ∷ 64 ∷ 31 ∷ 0 ∷ 0 ∷ 192 ∷ 93 ∷ 0 ∷ 0 ∷ 3 ∷ 0 ∷ 24 ∷ 0 ∷ 100 ∷ 97 ∷ 116
    ∷ 97 ∷ 6 ∷ 0 ∷ 0 ∷ 0 ∷ 0 ∷ 1 ∷ 0 ∷ 0 ∷ 0 ∷ 0 ∷ []
unfolding file_of header_of bytes_of_all bytes_of zeros rounded_to mul
small_file = refl

-- the largest counts, and one more
pub most_16 : refusal_of Sixteen 16000 2147483629 ≡ Ok tt
unfolding refusal_of
most_16 = refl

pub too_many_16 : refusal_of Sixteen 16000 2147483630 ≡ Err TooLong
unfolding refusal_of
too_many_16 = refl

pub most_24 : refusal_of TwentyFour 16000 1431655752 ≡ Ok tt
unfolding refusal_of
most_24 = refl

pub too_many_24 : refusal_of TwentyFour 16000 1431655753 ≡ Err TooLong
unfolding refusal_of
too_many_24 = refl

-- a rate of 0 goes before a count that is too long, and that before a buffer that is short
pub rate_first : header_answer Sixteen 0 2147483630 0 ≡ refused 1
unfolding refusal_of
rate_first = refl

pub long_before_short : header_answer Sixteen 16000 2147483630 0 ≡ refused 22
unfolding refusal_of
long_before_short = refl

pub short_last : file_answer TwentyFour 16000 (nan ∷ []) 47 ≡ refused 23
unfolding refusal_of
short_last = refl

-- one sample at 24 bits has a pad: 48 bytes
pub whole_answer : file_answer TwentyFour 16000 (nan ∷ []) 48 ≡ record { number = 0; bytes = 48; held = 0 }
unfolding refusal_of count is_past mul
whole_answer = refl

-- 8 bits are no width
pub eight_bits : asked_of 8 ≡ None
eight_bits = refl
