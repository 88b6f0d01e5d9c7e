-- The sizes of a file, its bytes stored piece by piece, and the pieces joined. Assumes nothing.
use mathlib.Core.Path.{◌≡◌, refl, sym, ap, ◌∙◌}
use mathlib.Core.Bool.{Bool, true, false, ◌||◌, cond}
use mathlib.Core.List.{List, [], ◌∷◌, ◌++◌}
use Prim.Native.Nat.{ℕ, zero, suc, ◌+◌, ◌*◌, ◌%◌, ◌^◌, ◌≤◌, ◌<◌}
use native.Mathlib.Nat.{mul-le-mul_right, add-mul-mod_self_left}
use native.Mathlib.Omega.{arith}
use Rattle.std.specs.Prelude.{Result, Ok, Err}
use Rattle.std.specs.Int.{w32, to_le_bytes}
use lib.Dec.{leb, ltb}
use lib.ListN.{length, get_or, drop, length-append}
use lib.Seq.{sets}
use lib.Ieee.{Float}
use borrow.Author.Tests.{le-leb, lt-leb, lt-ltb, le-ltb, leb-false, ltb-false}
use Rattle.number.specs.Bytes.{bytes_of}
use Rattle.number.proofs.ByteLaws.{length_bytes}
use Rattle.number.proofs.Lists.{left_next, left_none, put_row, sets_append, sets_front, put_row_sets}
use Rattle.pcm.specs.Samples.{bytes_of_all}
use Rattle.pcm.proofs.SamplesLaws.{length_bytes_of, le_bytes}
use Rattle.riff.specs.declared.writing.Width.{Width}
use Rattle.riff.specs.declared.writing.Width.TheVariants.{Sixteen, TwentyFour}
use Rattle.riff.specs.declared.writing.Written.{Written}
use Rattle.riff.specs.declared.refusal.Refusal.{Refusal}
use Rattle.riff.specs.declared.refusal.Refusal.TheVariants.{LimitBroken, NotSoundFile, ChunkPastEnd, TooLong, RoomShort}
use Rattle.riff.specs.Left.{left}
use Rattle.riff.specs.Refusal.{number_of}
use Rattle.riff.specs.Writing.{bytes_in, word_in, padded, bytes_of_words, header_of, sound_of, pad_of, zeros, file_of, refusal_of, refused, unless, room_for, Writes}

-- ---- sizes

module _ (width : Width) (rate n : ℕ) where
  pub rate_refused : ltb rate 1 || ltb 192000 rate ≡ true → Err LimitBroken ≡ refusal_of width rate n
  unfolding refusal_of
  rate_refused t = rw t refl

  pub too_long : ltb rate 1 || ltb 192000 rate ≡ false → 2 ^ 32 ≤ 36 + padded (bytes_in width * n) → Err TooLong ≡ refusal_of width rate n
  unfolding refusal_of
  too_long t h = rw (t, le-leb (2 ^ 32) (36 + padded (bytes_in width * n)) h) refl

  pub all_fits : ltb rate 1 || ltb 192000 rate ≡ false → 36 + padded (bytes_in width * n) < 2 ^ 32 → Ok tt ≡ refusal_of width rate n
  unfolding refusal_of
  all_fits t h = rw (t, lt-leb (2 ^ 32) (36 + padded (bytes_in width * n)) h) refl

  -- what it says that nothing is refused
  pub size_says : Ok tt ≡ refusal_of width rate n → (36 + padded (bytes_in width * n) < 2 ^ 32) × (rate ≤ 192000)
  unfolding refusal_of
  size_says = go (ltb rate 1) (ltb 192000 rate) (leb (2 ^ 32) (36 + padded (bytes_in width * n))) refl refl
    where
      go : (t u v : Bool) → ltb 192000 rate ≡ u → leb (2 ^ 32) (36 + padded (bytes_in width * n)) ≡ v
          → ◌≡◌ {A = Result (Unit {0}) Refusal} (Ok tt) (cond (t || u) (Err LimitBroken) (cond v (Err TooLong) (Ok tt)))
          → (36 + padded (bytes_in width * n) < 2 ^ 32) × (rate ≤ 192000)
      go true u v p q e = absurd cc
      go false true v p q e = absurd cc
      go false false true p q e = absurd cc
      go false false false p q e = (leb-false (2 ^ 32) (36 + padded (bytes_in width * n)) q, ltb-false 192000 rate p)

-- a product of a sample's bytes with so many samples fits the machine's words
pub product_fits : (width : Width) (rate n : ℕ) → Ok tt ≡ refusal_of width rate n → (k : ℕ) → k ≡ bytes_in width → k * n < 2 ^ 64
product_fits width rate n z k e = rw e (omega (arith, (size_says width rate n z).0))

-- a product of a sample's bytes with fewer than 2^32 samples is small
pub small_product : (k n : ℕ) → k ≤ 3 → n < 2 ^ 32 → k * n < 2 ^ 34
small_product k n a b = omega (arith, mul-le-mul_right n a)

pub bytes_least : (width : Width) → 2 ≤ bytes_in width
bytes_least Sixteen = omega arith
bytes_least TwentyFour = omega arith

-- and with more than that it is no size
pub large_product : (k n : ℕ) → 2 ≤ k → 2 ^ 32 ≤ n → 2 ^ 32 ≤ 36 + padded (k * n)
large_product k n a b = omega (arith, mul-le-mul_right n a)

-- ---- bytes stored from the front

pub sound_stored : (out : List ℕ) (at k : ℕ) (f : Float → ℕ) (samples : List Float) (made : List ℕ) → made ≡ bytes_of_all k f samples → at + k * length samples ≤ length out
    → put_row at (at + k * length samples) made out ≡ sets out at (bytes_of_all k f samples)
sound_stored out at k f samples made e h =
    ap (λ (l : List ℕ). put_row at (at + k * length samples) l out) e ∙ put_row_sets out (bytes_of_all k f samples) at (k * length samples) (length_bytes_of k f samples) h

-- a word of four bytes
word_stored : (out bytes made : List ℕ) (j v : ℕ) → j + 4 ≤ length out → bytes ≡ to_le_bytes w32 v → made ≡ bytes → put_row j (j + 4) made out ≡ sets out j (bytes_of 4 v)
word_stored out bytes made j v room b m =
    ap (λ (l : List ℕ). put_row j (j + 4) l out) (m ∙ b ∙ le_bytes 4 v) ∙ put_row_sets out (bytes_of 4 v) j 4 (length_bytes 4 v) room

module _ (words : List ℕ) (i : ℕ) where
  words_more : (out : List ℕ) → i < length words
      → sets (sets out (4 * i) (bytes_of 4 (get_or words i 0))) (4 * (i + 1)) (bytes_of_words (drop (i + 1) words)) ≡ sets out (4 * i) (bytes_of_words (drop i words))
  unfolding bytes_of_words
  words_more out h =
      let on : 4 * (i + 1) ≡ 4 * i + length (bytes_of 4 (get_or words i 0)) = rw (length_bytes 4 (get_or words i 0)) (omega arith) in
      rw (left_next words i 0 h, on) (sym (sets_append (bytes_of 4 (get_or words i 0)) (bytes_of_words (drop (i + 1) words)) out (4 * i)))

  pub words_turn : (out bytes made : List ℕ) → i < length words → 4 * i + 4 ≤ length out → bytes ≡ to_le_bytes w32 (get_or words i 0) → made ≡ bytes
      → sets (put_row (4 * i) (4 * i + 4) made out) (4 * (i + 1)) (bytes_of_words (drop (i + 1) words)) ≡ sets out (4 * i) (bytes_of_words (drop i words))
  words_turn out bytes made h room b m =
      ap (λ (l : List ℕ). sets l (4 * (i + 1)) (bytes_of_words (drop (i + 1) words))) (word_stored out bytes made (4 * i) (get_or words i 0) room b m) ∙ words_more out h

  pub words_end : (out : List ℕ) → length words ≤ i → sets out (4 * i) (bytes_of_words (drop i words)) ≡ out
  unfolding bytes_of_words
  words_end out h = rw (left_none words i h) refl

-- the header's words are its bytes
pub header_words : (width : Width) (rate n : ℕ)
    → bytes_of_words (0x4646_4952 ∷ (36 + padded (bytes_in width * n)) ∷ 0x4556_4157 ∷ 0x2074_6d66 ∷ 16 ∷ 0x1_0001 ∷ rate ∷ (bytes_in width * rate) ∷ (0x8_0001 * bytes_in width) ∷ 0x6174_6164 ∷ (bytes_in width * n) ∷ [])
    ≡ header_of width rate n
unfolding bytes_of_words header_of bytes_of
header_words Sixteen rate n = refl
header_words TwentyFour rate n = refl

-- as the code has them, with its k and its size of the sound
pub header_stored : (width : Width) (rate n k sound : ℕ) (out made : List ℕ) → k ≡ bytes_in width → sound ≡ bytes_in width * n
    → made ≡ sets out 0 (bytes_of_words (0x4646_4952 ∷ (36 + padded sound) ∷ 0x4556_4157 ∷ 0x2074_6d66 ∷ 16 ∷ 0x1_0001 ∷ rate ∷ (k * rate) ∷ (0x8_0001 * k) ∷ 0x6174_6164 ∷ sound ∷ []))
    → made ≡ sets out 0 (header_of width rate n)
header_stored width rate n k sound out made ek es e = rw (ek, es) at e ∙ ap (sets out 0) (header_words width rate n)

pub length_header : (width : Width) (rate n : ℕ) → length (header_of width rate n) ≡ 44
unfolding header_of bytes_of
length_header Sixteen rate n = refl
length_header TwentyFour rate n = refl

-- ---- answers, where it is refused, or there is room or none

module _ (fits : Result (Unit {0}) Refusal) (room bytes held : ℕ) where
  pub by_refusal : (r : Refusal) → Err r ≡ fits → unless fits (room_for room bytes held) ≡ refused (number_of r)
  by_refusal r e = rw (← e) refl

  pub short : Ok tt ≡ fits → room < bytes → unless fits (room_for room bytes held) ≡ refused (number_of RoomShort)
  short e h = rw (← e, lt-ltb room bytes h) refl

  pub enough : Ok tt ≡ fits → bytes ≤ room → unless fits (room_for room bytes held) ≡ record { number = 0; bytes = bytes; held = held }
  enough e h = rw (← e, le-ltb room bytes h) refl

-- what is promised, of a call that is refused and of one that is done
module _ (answer : Written) (made out : List ℕ) where
  pub writes_nothing : (r : Refusal) → answer ≡ refused (number_of r) → (w : Written) → w ≡ refused (number_of r) → Writes answer made out w out
  writes_nothing r a w e = record { told = e ∙ sym a; buffer = rw a (kept r) }
    where
      kept : (r : Refusal) → out ≡ left (number_of r) made out
      kept LimitBroken = refl
      kept NotSoundFile = refl
      kept ChunkPastEnd = refl
      kept TooLong = refl
      kept RoomShort = refl

  pub writes_all : (bytes held : ℕ) (after : List ℕ) → answer ≡ record { number = 0; bytes = bytes; held = held } → length made ≡ bytes → bytes ≤ length out → after ≡ sets out 0 made
      → Writes answer made out (record { number = 0; bytes = bytes; held = held }) after
  writes_all bytes held after a l h e = record { told = sym a; buffer = rw a (e ∙ sets_front made out (length made) refl (omega arith)) }

-- ---- the pad

pub length_zeros : (n : ℕ) → length (zeros n) ≡ n
unfolding zeros
length_zeros zero = refl
length_zeros (suc n) = ap suc (length_zeros n)

pub parity : (width : Width) (n : ℕ) → bytes_in width * (n % 2) % 2 ≡ bytes_in width * n % 2
parity Sixteen n = omega arith
parity TwentyFour n = let m : n % 2 % 2 ≡ n % 2 = omega arith in thrice (n % 2) ∙ m ∙ sym (thrice n)
  where
    thrice : (m : ℕ) → 3 * m % 2 ≡ m % 2
    thrice m = let e : 3 * m ≡ m + 2 * m = omega arith in ap (λ (z : ℕ). z % 2) e ∙ add-mul-mod_self_left m 2 m

pub pad_stored : (width : Width) (n : ℕ) (out : List ℕ) → sets out 0 (pad_of (bytes_in width * (n % 2))) ≡ sets out 0 (pad_of (bytes_in width * n))
pad_stored width n out = rw (parity width n) refl

-- ---- the whole

module _ (width : Width) (rate : ℕ) (samples : List Float) where
  pub length_file : length (file_of width rate samples) ≡ 44 + padded (bytes_in width * length samples)
  unfolding file_of
  length_file =
      rw (length-append, length-append, length_header width rate (length samples), length_bytes_of (bytes_in width) (word_in width) samples, length_zeros (bytes_in width * length samples % 2)) (omega arith)

  pub file_stored : (out : List ℕ)
      → sets (sets (sets out 0 (header_of width rate (length samples))) 44 (sound_of width samples)) (44 + bytes_in width * length samples) (pad_of (bytes_in width * length samples))
      ≡ sets out 0 (file_of width rate samples)
  unfolding file_of
  file_stored out =
      let head = header_of width rate (length samples) in
      let sound = sound_of width samples in
      let pad = pad_of (bytes_in width * length samples) in
      let a : 0 + length head ≡ 44 = rw (length_header width rate (length samples)) refl in
      let b : 0 + length (head ++ sound) ≡ 44 + bytes_in width * length samples = rw (length-append, length_header width rate (length samples), length_bytes_of (bytes_in width) (word_in width) samples) (omega arith) in
      sym (rw b at (sets_append (head ++ sound) pad out 0) ∙ ap (λ (l : List ℕ). sets l (44 + bytes_in width * length samples) pad) (rw a at (sets_append head sound out 0)))

  -- as the code has it: what the buffer holds after each of three calls
  pub file_of_lem : (out a b c : List ℕ) (sound : ℕ) → sound ≡ bytes_in width * length samples
      → a ≡ sets out 0 (header_of width rate (length samples)) → b ≡ sets a 44 (sound_of width samples) → c ≡ sets b (44 + sound) (pad_of sound)
      → c ≡ sets out 0 (file_of width rate samples)
  file_of_lem out a b c sound e ea eb ec = rw (ec, eb, ea, e) (file_stored out)
