-- Reading what was written gives the whole numbers again, whatever follows the file in the buffer; and the pieces make the file. Assumes nothing.
use mathlib.Core.Path.{◌≡◌, refl, sym, ap, ◌∙◌}
use mathlib.Core.Bool.{Bool, true, false}
use mathlib.Core.List.{List, [], ◌∷◌, ◌++◌, append_assoc}
use Prim.Native.Nat.{ℕ, zero, suc, ◌+◌, ◌-◌, ◌*◌, ◌/◌, ◌%◌, ◌^◌, ◌≤◌, ◌<◌, min}
use native.Mathlib.Nat.{mod-eq_of_lt, pow-succ', min-le_right}
use native.Mathlib.Omega.{arith}
use Rattle.std.specs.Prelude.{Some, None, Ok}
use lib.IntN.{ℤ}
use lib.Pow.{pow_pos}
use lib.ListN.{length, length-append}
use lib.Seq.{take_at, drop_at}
use lib.Ieee.{Float, nan, inf, fin, up, down}
use lib.Ieee.Nearest.{closest}
use borrow.Author.Tests.{lt-ltb, le-ltb, lt-leb, le-leb}
use Rattle.number.specs.Bytes.{bytes_of, number_of}
use Rattle.number.proofs.ByteLaws.{length_bytes, number_of_bytes_of}
use Rattle.pcm.specs.Sample.{rounded_to, twos_complement, scaled, signed, limit}
use Rattle.pcm.specs.Samples.{bytes_of_all, count}
use Rattle.pcm.proofs.SamplesLaws.{bytes_join, count_join, length_bytes_of}
use Rattle.riff.specs.declared.writing.Width.{Width}
use Rattle.riff.specs.declared.writing.Width.TheVariants.{Sixteen, TwentyFour}
use Rattle.riff.specs.declared.reading.Cursor.{Cursor}
use Rattle.riff.specs.Writing.{bytes_in, word_in, held_in, padded, header_of, sound_of, pad_of, file_of, refusal_of}
use Rattle.riff.specs.Reading.{field, block_of, is_pcm, format_of, sampled_of, chunk_of, walk_of, first, end_of, walk_to, chunks_of, signed_of, numbers_in, numbers_of, samples_in}
use Rattle.riff.specs.Trip.{number_in, numbers_for, found_in, joined, sound_of_parts, held_in_parts, file_of_parts}
use Rattle.riff.proofs.WritingLaws.{length_header, length_zeros, size_says}

-- ---- the pieces

pub sound_parts : (width : Width) (parts : List (List Float)) → sound_of_parts width parts ≡ sound_of width (joined parts)
unfolding sound_of_parts joined bytes_of_all
sound_parts width [] = refl
sound_parts width (p ∷ l) = ap (λ (b : List ℕ). sound_of width p ++ b) (sound_parts width l) ∙ sym (bytes_join (bytes_in width) (word_in width) p (joined l))

-- joined they are the whole writer's bytes
pub file_parts : (width : Width) (rate : ℕ) (parts : List (List Float)) → file_of_parts width rate parts ≡ file_of width rate (joined parts)
unfolding file_of_parts file_of
file_parts width rate parts = rw (sound_parts width parts) refl

-- and the counts add up
pub held_parts : (width : Width) (parts : List (List Float)) → held_in_parts width parts ≡ count (held_in width) (joined parts)
unfolding held_in_parts joined count
held_parts width [] = refl
held_parts width (p ∷ l) = ap (λ (n : ℕ). count (held_in width) p + n) (held_parts width l) ∙ sym (count_join (held_in width) p (joined l))

-- ---- a number, in two's complement and back

-- a word of h bits below the sign that gives the number z back
record Back (h : ℕ) (z : ℤ) : Type 0 where
  small : twos_complement (suc h) z < 2 ^ suc h
  same : signed_of (2 ^ h) (twos_complement (suc h) z) ≡ z

module _ (h : ℕ) where
  twice : 2 ^ suc h ≡ 2 * 2 ^ h
  twice = pow-succ' 2 h

  signed_back : (s : Bool) (n : ℕ) → n ≤ limit h s → Back h (signed s n)
  signed_back false n l =
      let p = pow_pos h in
      record { small = omega (arith, twice); same = rw (lt-ltb n (2 ^ h) (omega arith)) refl }
  signed_back true zero l =
      let p = pow_pos h in
      record { small = omega (arith, twice); same = rw (lt-ltb 0 (2 ^ h) p) refl }
  signed_back true (suc n) l =
      let m : 2 * 2 ^ h - (2 ^ suc h - suc n) ≡ suc n = omega (arith, twice) in
      record { small = omega (arith, twice); same = rw (le-ltb (2 ^ suc h - suc n) (2 ^ h) (omega (arith, twice)), m) refl }

  number_back : (x : Float) → Back h (rounded_to h x)
  unfolding rounded_to
  number_back nan = signed_back false 0 (omega arith)
  number_back (inf true) = signed_back true (limit h true) (omega arith)
  number_back (inf false) = signed_back false (limit h false) (omega arith)
  number_back (fin s m e) = signed_back s (min (closest (m * up e) (down e)) (limit h s)) (min-le_right (closest (m * up e) (down e)) (limit h s))

word_back : (width : Width) (x : Float) → (word_in width x < 256 ^ bytes_in width) × (signed_of (2 ^ (8 * bytes_in width - 1)) (word_in width x) ≡ number_in width x)
word_back Sixteen x = let b = number_back 15 (scaled 16 x) in (b.small, b.same)
word_back TwentyFour x = let b = number_back 23 (scaled 24 x) in (b.small, b.same)

-- ---- samples in a list of bytes

-- a number's bytes, anywhere
field_there : (k v : ℕ) (before after : List ℕ) (at : ℕ) → length before ≡ at → v < 256 ^ k → field k (before ++ (bytes_of k v ++ after)) at ≡ v
field_there k v before after at e h =
    rw (drop_at before (bytes_of k v ++ after) at e, take_at (bytes_of k v) after k (length_bytes k v)) (number_of_bytes_of k v ∙ mod-eq_of_lt h)

pub numbers_there : (width : Width) (samples : List Float) (before after : List ℕ) (at : ℕ) → length before ≡ at
    → numbers_in (length samples) (bytes_in width) (before ++ (sound_of width samples ++ after)) at ≡ numbers_for width samples
unfolding numbers_in numbers_for bytes_of_all
numbers_there width [] before after at e = refl
numbers_there width (x ∷ l) before after at e =
    let k = bytes_in width in
    let b = bytes_of k (word_in width x) in
    let rest = sound_of width l ++ after in
    let w = word_back width x in
    let n : length (before ++ b) ≡ at + k = rw (length-append before b, length_bytes k (word_in width x), e) refl in
    rw (append_assoc b (sound_of width l) after)
    (rw (field_there k (word_in width x) before rest at e w.0, w.1)
    (ap (λ (z : List ℤ). number_in width x ∷ z) (rw (← append_assoc before b rest) (numbers_there width l (before ++ b) after (at + k) n))))

-- ---- the chunks of a file: n samples, with any bytes `tail` behind the header that are as many as it says

module _ (width : Width) (rate n : ℕ) (tail : List ℕ) (small : 36 + padded (bytes_in width * n) < 2 ^ 32) (rates : rate < 2 ^ 32) where
  s : List ℕ
  s = header_of width rate n ++ tail

  end : ℕ
  end = 44 + padded (bytes_in width * n)

  -- its four fields that are not constant
  field_size : field 4 s 4 ≡ 36 + padded (bytes_in width * n)
  unfolding s header_of bytes_of number_of
  field_size = number_of_bytes_of 4 (36 + padded (bytes_in width * n)) ∙ mod-eq_of_lt small

  field_rate : field 4 s 24 ≡ rate
  unfolding s header_of bytes_of number_of
  field_rate = number_of_bytes_of 4 rate ∙ mod-eq_of_lt rates

  field_sound : field 4 s 40 ≡ bytes_in width * n
  unfolding s header_of bytes_of number_of
  field_sound = number_of_bytes_of 4 (bytes_in width * n) ∙ mod-eq_of_lt (omega arith)

  -- its tags, and the size of the format
  tag_riff : field 4 s 0 ≡ 0x4646_4952
  unfolding s header_of bytes_of number_of
  tag_riff = refl

  tag_wave : field 4 s 8 ≡ 0x4556_4157
  unfolding s header_of bytes_of number_of
  tag_wave = refl

  tag_format : field 4 s 12 ≡ 0x2074_6d66
  unfolding s header_of bytes_of number_of
  tag_format = refl

  format_size : field 4 s 16 ≡ 16
  unfolding s header_of bytes_of number_of
  format_size = refl

  tag_sound : field 4 s 36 ≡ 0x6174_6164
  unfolding s header_of bytes_of number_of
  tag_sound = refl

  block_there : block_of s 20 16 ≡ Some width
  unfolding s header_of bytes_of number_of block_of is_pcm
  block_there = go width
    where
      go : (width : Width) → block_of (header_of width rate n ++ tail) 20 16 ≡ Some width
      go Sixteen = refl
      go TwentyFour = refl

  length_there : length s ≡ 44 + length tail
  unfolding s
  length_there = length-append (header_of width rate n) tail ∙ ap (λ (k : ℕ). k + length tail) (length_header width rate n)

  end_is : end ≡ 44 + padded (bytes_in width * n)
  unfolding end
  end_is = refl

  -- the file's end
  end_there : padded (bytes_in width * n) ≤ length tail → end_of s ≡ Ok end
  unfolding end_of
  end_there r =
      let e : 8 + (36 + padded (bytes_in width * n)) ≡ end = omega (arith, end_is) in
      let l = length_there in
      rw (le-ltb (length s) 12 (omega arith), tag_riff, tag_wave, field_size, le-ltb (36 + padded (bytes_in width * n)) 4 (omega arith), le-ltb (length s - 8) (36 + padded (bytes_in width * n)) (omega arith))
      (ap Ok e)

  -- the format chunk
  formatted : Cursor
  formatted = record { at = 36; format = Some (record { width = width; rate = rate }); place = None }

  at_format : chunk_of s end first ≡ Ok formatted
  unfolding chunk_of format_of formatted
  at_format =
      let e = end_is in
      rw (le-ltb (end - 12) 8 (omega arith), tag_format, format_size, le-ltb (end - 12 - 8) 16 (omega arith), block_there, field_rate) refl

  -- the chunk of the samples
  whole_number : bytes_in width * n % bytes_in width ≡ 0
  whole_number = go width
    where
      go : (width : Width) → bytes_in width * n % bytes_in width ≡ 0
      go Sixteen = omega arith
      go TwentyFour = omega arith

  -- the cursor behind them, at the end
  sounded : Cursor
  sounded = record { at = 44 + padded (bytes_in width * n); format = Some (record { width = width; rate = rate }); place = Some (record { start = 44; bytes = bytes_in width * n }) }

  at_sound : chunk_of s end formatted ≡ Ok sounded
  unfolding chunk_of sampled_of formatted sounded
  at_sound =
      let e = end_is in
      rw (le-ltb (end - 36) 8 (omega arith), tag_sound, field_sound, whole_number, le-ltb (end - 36 - 8) (bytes_in width * n) (omega arith)) refl

  walked : (m : ℕ) → 3 ≤ m → walk_of m s end first ≡ Ok (found_in width rate n)
  unfolding walk_of formatted sounded
  walked zero h = absurd (omega arith)
  walked (suc zero) h = absurd (omega arith)
  walked (suc (suc zero)) h = absurd (omega arith)
  walked (suc (suc (suc m))) h =
      let e = end_is in
      rw (lt-leb end 12 (omega arith), at_format, lt-leb end 36 (omega arith), at_sound, le-leb end (44 + padded (bytes_in width * n)) (omega arith)) refl

  pub chunks_there : padded (bytes_in width * n) ≤ length tail → chunks_of (header_of width rate n ++ tail) ≡ Ok (found_in width rate n)
  unfolding s
  chunks_there r = ap (walk_to s) (end_there r) ∙ walked (length s) (omega (arith, length_there))

-- ---- the trip: whatever follows the file in the buffer, its samples are found, as many as were written, and their numbers are those of the samples

module _ (width : Width) (rate : ℕ) (samples : List Float) (after : List ℕ) (fits : Ok tt ≡ refusal_of width rate (length samples)) where
  apart : file_of width rate samples ++ after ≡ header_of width rate (length samples) ++ (sound_of width samples ++ (pad_of (bytes_in width * length samples) ++ after))
  unfolding file_of
  apart = simp append_assoc

  pub trip_chunks : chunks_of (file_of width rate samples ++ after) ≡ Ok (found_in width rate (length samples))
  trip_chunks =
      let size = size_says width rate (length samples) fits in
      ap chunks_of apart
      ∙ chunks_there width rate (length samples) (sound_of width samples ++ (pad_of (bytes_in width * length samples) ++ after)) size.0 (omega (arith, size.1))
      (simp (length-append, length_bytes_of (bytes_in width) (word_in width) samples, length_zeros (bytes_in width * length samples % 2)) (omega arith))

  pub trip_samples : samples_in (found_in width rate (length samples)) ≡ length samples
  trip_samples = go width
    where
      go : (w : Width) → bytes_in w * length samples / bytes_in w ≡ length samples
      go Sixteen = omega arith
      go TwentyFour = omega arith

  pub trip_numbers : numbers_of (file_of width rate samples ++ after) (chunks_of (file_of width rate samples ++ after)) ≡ numbers_for width samples
  trip_numbers =
      ap (numbers_of (file_of width rate samples ++ after)) trip_chunks
      ∙ rw (trip_samples, apart)
      (numbers_there width samples (header_of width rate (length samples)) (pad_of (bytes_in width * length samples) ++ after) 44 (length_header width rate (length samples)))

pub length_numbers_for : (width : Width) (samples : List Float) → length (numbers_for width samples) ≡ length samples
unfolding numbers_for
length_numbers_for width [] = refl
length_numbers_for width (x ∷ l) = ap suc (length_numbers_for width l)
