-- What a caller takes from this crate: any two outcomes of a call agree; the pieces make the file; reading what was written gives the numbers again. Assumes nothing.
use mathlib.Core.Path.{◌≡◌, refl, sym, ap, ◌∙◌}
use mathlib.Core.List.{List, ◌++◌}
use Prim.Native.Nat.{ℕ, ◌≤◌}
use Rattle.std.specs.Prelude.{Result, Ok}
use lib.IntN.{ℤ}
use lib.ListN.{length}
use lib.Ieee.{Float}
use borrow.Author.Tests.{le-ltb}
use Rattle.number.specs.Lists.{over}
use Rattle.pcm.specs.Samples.{count}
use Rattle.riff.specs.declared.writing.Width.{Width}
use Rattle.riff.specs.declared.writing.Written.{Written}
use Rattle.riff.specs.declared.reading.Heard.{Heard}
use Rattle.riff.specs.declared.reading.Found.{Found}
use Rattle.riff.specs.declared.refusal.Refusal.{Refusal}
use Rattle.riff.specs.Left.{left}
use Rattle.riff.specs.Writing.{bits_in, held_in, file_of, refusal_of, Writes}
use Rattle.riff.specs.Reading.{chunks_of, heard_of, numbers_of, Hears}
use Rattle.riff.specs.Trip.{numbers_for, joined, held_in_parts, file_of_parts}
use Rattle.riff.proofs.TripLaws.{file_parts, held_parts, trip_chunks, trip_samples, trip_numbers, length_numbers_for}

-- ---- any two outcomes agree: whole writer, header, part and pad, and the reader

pub writes_agree : (answer : Written) (made out : List ℕ) (r s : Written) (after other : List ℕ) → Writes answer made out r after → Writes answer made out s other → (r ≡ s) × (after ≡ other)
writes_agree answer made out r s after other a b = (a.told ∙ sym b.told, a.buffer ∙ sym b.buffer)

pub hears_agree : (sound : Result Found Refusal) (file : List ℕ) (out : List ℤ) (r s : Heard) (after other : List ℤ) → Hears sound file out r after → Hears sound file out s other → (r ≡ s) × (after ≡ other)
hears_agree sound file out r s after other a b =
    let same = a.told ∙ sym b.told in
    (same, a.buffer ∙ ap (λ (w : Heard). left w.number (numbers_of file sound) out) same ∙ sym b.buffer)

-- ---- however the samples are cut: header, parts and pad joined are the whole writer's bytes, and the counts add up

pub pieces : (width : Width) (rate : ℕ) (parts : List (List Float))
    → (file_of_parts width rate parts ≡ file_of width rate (joined parts)) × (held_in_parts width parts ≡ count (held_in width) (joined parts))
pieces width rate parts = (file_parts width rate parts, held_parts width parts)

-- ---- the round trip, whatever stands behind the file

module _ (width : Width) (rate : ℕ) (samples : List Float) (behind : List ℕ) (fits : Ok tt ≡ refusal_of width rate (length samples)) (out : List ℤ) (room : length samples ≤ length out) where
  found : heard_of (chunks_of (file_of width rate samples ++ behind)) (length out) ≡ record { number = 0; bits = bits_in width; rate = rate; count = length samples }
  found =
      ap (λ (a : Result Found Refusal). heard_of a (length out)) (trip_chunks width rate samples behind fits)
      ∙ rw (trip_samples width rate samples behind fits, le-ltb (length out) (length samples) room) refl

  pub round_trip : (r : Heard) (after : List ℤ) → Hears (chunks_of (file_of width rate samples ++ behind)) (file_of width rate samples ++ behind) out r after
      → (r ≡ record { number = 0; bits = bits_in width; rate = rate; count = length samples }) × (after ≡ over (numbers_for width samples) (length samples) out)
  round_trip r after h =
      let told = h.told ∙ found in
      let made = trip_numbers width rate samples behind fits in
      (told, h.buffer ∙ rw (told, made) (ap (λ (n : ℕ). over (numbers_for width samples) n out) (length_numbers_for width samples)))
