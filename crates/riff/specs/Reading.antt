-- Reading a sound file, chunk by chunk. Assumes nothing.
use Rattle.std.specs.Prelude.{Option, None, Some, is_some, Result, Ok, Err, ◌≡◌, refl, Bool, true, not, ◌&&◌, ◌||◌, cond, List, [], ◌∷◌, ◌++◌, ℕ, zero, suc, ◌+◌, ◌-◌, ◌*◌, ◌/◌, ◌%◌, ◌^◌, ◌≤◌, T, leb, ltb, eqb, ℤ, pos, negsuc, neg_ℤ, length, take, drop}
use Rattle.number.specs.Bytes.{number_of}
use Rattle.riff.specs.Left.{left}
use Rattle.riff.specs.Refusal as Refusals
use Rattle.riff.specs.Writing.{bytes_in, bits_in, padded, asked_of}
use Rattle.riff.specs.declared.writing.Width.{Width}
use Rattle.riff.specs.declared.writing.Width.TheVariants.{Sixteen}
use Rattle.riff.specs.declared.reading.Format.{Format}
use Rattle.riff.specs.declared.reading.Place.{Place}
use Rattle.riff.specs.declared.reading.Cursor.{Cursor}
use Rattle.riff.specs.declared.reading.Found.{Found}
use Rattle.riff.specs.declared.reading.Heard.{Heard}
use Rattle.riff.specs.declared.refusal.Refusal.{Refusal}
use Rattle.riff.specs.declared.refusal.Refusal.TheVariants.{NotSoundFile, ChunkPastEnd, RoomShort}

-- the number of the k bytes from `at` on
abbrev pub field : ℕ → List ℕ → ℕ → ℕ
field k s at = number_of (take k (drop at s))

-- ---- the format chunk, whose content starts at `at`

-- the subformat 00000001-0000-0010-8000-00aa00389b71
unfoldable pub extended_of : List ℕ → ℕ → Bool
extended_of s at = eqb (field 4 s (at + 24)) 1 && eqb (field 4 s (at + 28)) 0x10_0000 && eqb (field 4 s (at + 32)) 0xaa00_0080 && eqb (field 4 s (at + 36)) 0x719b_3800

-- PCM by itself, or by the subformat, which 40 bytes have
unfoldable pub is_pcm : List ℕ → ℕ → ℕ → Bool
is_pcm s at size = eqb (field 2 s at) 1 || (eqb size 40 && (eqb (field 2 s at) 0xfffe && extended_of s at))

-- the width of the samples where it is PCM of one channel, of two bytes and 16 bits or three and 24
unfoldable pub block_of : List ℕ → ℕ → ℕ → Option Width
block_of s at size =
    cond (is_pcm s at size && eqb (field 2 s (at + 2)) 1 && eqb (field 2 s (at + 14)) (8 * field 2 s (at + 12))) (asked_of (field 2 s (at + 14))) None

-- the cursor past a format chunk of that width
abbrev pub format_by : Cursor → ℕ → ℕ → Option Width → Result Cursor Refusal
format_by c size rate None = Err NotSoundFile
format_by c size rate (Some w) = Ok (record { at = c.at + 8 + size; format = Some (record { width = w; rate = rate }); place = c.place })

-- the step at a format chunk of `size` bytes, with `room` bytes up to the end
unfoldable pub format_of : List ℕ → Cursor → ℕ → ℕ → Result Cursor Refusal
format_of s c size room =
    cond (is_some c.format || (not (eqb size 16) && not (eqb size 18) && not (eqb size 40))) (Err NotSoundFile)
    (cond (ltb room size) (Err ChunkPastEnd)
    (format_by c size (field 4 s (c.at + 12)) (block_of s (c.at + 8) size)))

-- the cursor past a chunk of `size` bytes and its pad
abbrev pub past : Cursor → ℕ → ℕ
past c size = c.at + 8 + padded size

-- the step at a chunk of samples
abbrev pub sampled_by : Cursor → ℕ → ℕ → Option Format → Result Cursor Refusal
sampled_by c size room None = Err NotSoundFile
sampled_by c size room (Some f) =
    cond (is_some c.place || not (eqb (size % bytes_in f.width) 0)) (Err NotSoundFile)
    (cond (ltb room size) (Err ChunkPastEnd)
    (Ok (record { at = past c size; format = Some f; place = Some (record { start = c.at + 8; bytes = size }) })))

unfoldable pub sampled_of : Cursor → ℕ → ℕ → Result Cursor Refusal
sampled_of c size room = sampled_by c size room c.format

-- and at any other
unfoldable pub skipped_of : Cursor → ℕ → ℕ → Result Cursor Refusal
skipped_of c size room = cond (ltb room size) (Err ChunkPastEnd) (Ok (record { at = past c size; format = c.format; place = c.place }))

-- the step at the cursor, before the end
unfoldable pub chunk_of : List ℕ → ℕ → Cursor → Result Cursor Refusal
chunk_of s end c =
    let size = field 4 s (c.at + 4) in
    let room = end - c.at - 8 in
    cond (ltb (end - c.at) 8) (Err ChunkPastEnd)
    (cond (eqb (field 4 s c.at) 0x2074_6d66) (format_of s c size room)
    (cond (eqb (field 4 s c.at) 0x6174_6164) (sampled_of c size room)
    (skipped_of c size room)))

-- ---- the walk

-- the first chunk of a file
abbrev pub first : Cursor
first = record { at = 12; format = None; place = None }

-- a file has a format and samples
abbrev pub whole_by : ℕ → Option Format → Option Place → Result Found Refusal
whole_by at None p = Err NotSoundFile
whole_by at (Some f) None = Err NotSoundFile
whole_by at (Some f) (Some p) = Ok (record { at = at; format = f; place = p })

abbrev pub whole_of : Cursor → Result Found Refusal
whole_of c = whole_by c.at c.format c.place

-- after a step: on with the walk
abbrev pub on : (Cursor → Result Found Refusal) → Result Cursor Refusal → Result Found Refusal
on walk (Ok c) = walk c
on walk (Err r) = Err r

-- at most n chunks, up to the end
unfoldable pub walk_of : ℕ → List ℕ → ℕ → Cursor → Result Found Refusal
walk_of zero s end c = Err ChunkPastEnd
walk_of (suc n) s end c = cond (leb end c.at) (whole_of c) (on (walk_of n s end) (chunk_of s end c))

-- RIFF and WAVE with their size, which the file has
unfoldable pub end_of : List ℕ → Result ℕ Refusal
end_of s =
    cond (ltb (length s) 12) (Err NotSoundFile)
    (cond (not (eqb (field 4 s 0) 0x4646_4952) || not (eqb (field 4 s 8) 0x4556_4157) || ltb (field 4 s 4) 4) (Err NotSoundFile)
    (cond (ltb (length s - 8) (field 4 s 4)) (Err ChunkPastEnd) (Ok (8 + field 4 s 4))))

-- a file's end lies within its n bytes
abbrev pub EndsIn : ℕ → Result ℕ Refusal → Type 0
EndsIn n (Ok end) = (end ≤ n) × (end ≤ 2 ^ 33)
EndsIn n (Err r) = T true

abbrev pub walk_to : List ℕ → Result ℕ Refusal → Result Found Refusal
walk_to s (Ok end) = walk_of (length s) s end first
walk_to s (Err r) = Err r

abbrev pub chunks_of : List ℕ → Result Found Refusal
chunks_of s = walk_to s (end_of s)

-- samples that lie within the n bytes
abbrev pub SoundIn : ℕ → Result Found Refusal → Type 0
SoundIn n (Ok f) = f.place.start + f.place.bytes ≤ n
SoundIn n (Err r) = T true

-- ---- the numbers

-- the number of two's complement v, half of whose range is `half`
abbrev pub signed_of : ℕ → ℕ → ℤ
signed_of half v = cond (ltb v half) (pos v) (neg_ℤ (pos (2 * half - v)))

-- the sample of k bytes from `at` on, and n of them
abbrev pub number_at : ℕ → List ℕ → ℕ → ℤ
number_at k s at = signed_of (2 ^ (8 * k - 1)) (field k s at)

unfoldable pub numbers_in : ℕ → ℕ → List ℕ → ℕ → List ℤ
numbers_in zero k s at = []
numbers_in (suc n) k s at = number_at k s at ∷ numbers_in n k s (at + k)

-- ---- what reading answers, with room for `room` numbers

abbrev pub samples_in : Found → ℕ
samples_in f = f.place.bytes / bytes_in f.format.width

abbrev pub heard_of : Result Found Refusal → ℕ → Heard
heard_of (Err r) room = record { number = Refusals.number_of r; bits = 0; rate = 0; count = 0 }
heard_of (Ok f) room =
    record { number = cond (ltb room (samples_in f)) (Refusals.number_of RoomShort) 0; bits = bits_in f.format.width; rate = f.format.rate; count = samples_in f }

abbrev pub numbers_of : List ℕ → Result Found Refusal → List ℤ
numbers_of s (Err r) = []
numbers_of s (Ok f) = numbers_in (samples_in f) (bytes_in f.format.width) s f.place.start

-- What a call promises: its answer, and every number of the buffer afterwards, where the chunks of the file s say `sound`.
pub record Hears (sound : Result Found Refusal) (s : List ℕ) (out : List ℤ) (r : Heard) (after : List ℤ) : Type 0 where
  pub told : r ≡ heard_of sound (length out)
  pub buffer : after ≡ left r.number (numbers_of s sound) out

-- ---- computed

-- RIFF with a size, and WAVE
abbrev opening : ℕ → List ℕ
opening n = 82 ∷ 73 ∷ 70 ∷ 70 ∷ n ∷ 0 ∷ 0 ∷ 0 ∷ 87 ∷ 65 ∷ 86 ∷ 69 ∷ []

-- a format of 16 bits and 8000 a second
abbrev plain : List ℕ
plain = 102 ∷ 109 ∷ 116 ∷ 32 ∷ 16 ∷ 0 ∷ 0 ∷ 0 ∷ 1 ∷ 0 ∷ 1 ∷ 0 ∷ 64 ∷ 31 ∷ 0 ∷ 0 ∷ 128 ∷ 62 ∷ 0 ∷ 0 ∷ 2 ∷ 0 ∷ 16 ∷ 0 ∷ []

-- a chunk of an unknown kind, with one byte and its pad
abbrev unknown : List ℕ
unknown = 106 ∷ 117 ∷ 110 ∷ 107 ∷ 1 ∷ 0 ∷ 0 ∷ 0 ∷ 9 ∷ 0 ∷ []

-- one sample, -2, and the first eight bytes of a chunk of many
abbrev one : List ℕ
one = 100 ∷ 97 ∷ 116 ∷ 97 ∷ 2 ∷ 0 ∷ 0 ∷ 0 ∷ 254 ∷ 255 ∷ []

abbrev many : List ℕ
many = 100 ∷ 97 ∷ 116 ∷ 97 ∷ 200 ∷ 0 ∷ 0 ∷ 0 ∷ []

-- an unknown chunk is skipped with its pad, and its like behind the samples too
pub skipped : chunks_of (opening 58 ++ unknown ++ plain ++ one ++ unknown) ≡ Ok (record { at = 66; format = record { width = Sixteen; rate = 8000 }; place = record { start = 54; bytes = 2 } })
unfolding end_of walk_of chunk_of format_of sampled_of skipped_of block_of is_pcm number_of
skipped = refl

pub sample_read : numbers_of (opening 38 ++ plain ++ one) (chunks_of (opening 38 ++ plain ++ one)) ≡ negsuc 1 ∷ []
unfolding end_of walk_of chunk_of format_of sampled_of block_of is_pcm number_of numbers_in
sample_read = refl

-- samples that run past the end, and the same before a format: 20 goes first
pub past_the_end : chunks_of (opening 36 ++ plain ++ many) ≡ Err ChunkPastEnd
unfolding end_of walk_of chunk_of format_of sampled_of block_of is_pcm number_of
past_the_end = refl

pub before_a_format : chunks_of (opening 12 ++ many) ≡ Err NotSoundFile
unfolding end_of walk_of chunk_of sampled_of number_of
before_a_format = refl

-- a file that is shorter than it says
pub cut_short : chunks_of (opening 5) ≡ Err ChunkPastEnd
unfolding end_of number_of
cut_short = refl

pub no_samples : chunks_of (opening 28 ++ plain) ≡ Err NotSoundFile
unfolding end_of walk_of chunk_of format_of block_of is_pcm number_of
no_samples = refl
