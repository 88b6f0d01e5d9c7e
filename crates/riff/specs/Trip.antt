-- What reading a file that was written gives, and what a file in pieces is. Assumes nothing.
use Rattle.std.specs.Prelude.{List, [], ◌∷◌, ◌++◌, ℕ, ◌+◌, ◌*◌, ℤ, length, Float}
use Rattle.pcm.specs.Sample.{number_of}
use Rattle.pcm.specs.Samples.{count}
use Rattle.riff.specs.declared.writing.Width.{Width}
use Rattle.riff.specs.declared.reading.Found.{Found}
use Rattle.riff.specs.Writing.{bytes_in, bits_in, held_in, padded, header_of, sound_of, pad_of}

-- the whole number of a sample, and of each
abbrev pub number_in : Width → Float → ℤ
number_in width = number_of (bits_in width)

unfoldable pub numbers_for : Width → List Float → List ℤ
numbers_for width [] = []
numbers_for width (x ∷ l) = number_in width x ∷ numbers_for width l

-- where the reader stands at the end of a file of n samples, and what it has found
abbrev pub found_in : Width → ℕ → ℕ → Found
found_in width rate n = record { at = 44 + padded (bytes_in width * n); format = record { width = width; rate = rate }; place = record { start = 44; bytes = bytes_in width * n } }

-- parts of the samples, one after the other: all of them, their bytes, and how many are held back
unfoldable pub joined : List (List Float) → List Float
joined [] = []
joined (p ∷ l) = p ++ joined l

unfoldable pub sound_of_parts : Width → List (List Float) → List ℕ
sound_of_parts width [] = []
sound_of_parts width (p ∷ l) = sound_of width p ++ sound_of_parts width l

unfoldable pub held_in_parts : Width → List (List Float) → ℕ
held_in_parts width [] = 0
held_in_parts width (p ∷ l) = count (held_in width) p + held_in_parts width l

-- the file that the pieces make
unfoldable pub file_of_parts : Width → ℕ → List (List Float) → List ℕ
file_of_parts width rate parts = header_of width rate (length (joined parts)) ++ sound_of_parts width parts ++ pad_of (bytes_in width * length (joined parts))
