-- Many samples: their bytes one after the other, and how many are held back. Assumes nothing.
use Rattle.std.specs.Prelude.{◌≡◌, refl, Bool, true, false, cond, List, [], ◌∷◌, ◌++◌, ℕ, ◌+◌, pos, negsuc, Float}
use Rattle.std.specs.Float.{inf, fin}
use Rattle.std.specs.Float.Ieee.{mul}
use Rattle.number.specs.Bytes.{bytes_of}
use Rattle.pcm.specs.Sample.{rounded_to, is_past, is_held, word_of}

-- k bytes for each number that f makes of a sample
unfoldable pub bytes_of_all : ℕ → (Float → ℕ) → List Float → List ℕ
bytes_of_all k f [] = []
bytes_of_all k f (x ∷ l) = bytes_of k (f x) ++ bytes_of_all k f l

-- how many of them pass the test t
unfoldable pub count : (Float → Bool) → List Float → ℕ
count t [] = 0
count t (x ∷ l) = cond (t x) 1 0 + count t l

-- ---- computed: 1, -1.5 and an infinity

abbrev three : List Float
three = fin false 1 (pos 0) ∷ fin true 3 (negsuc 0) ∷ inf false ∷ []

pub bytes_at_16 : bytes_of_all 2 (word_of 16) three ≡ 1 ∷ 0 ∷ 254 ∷ 255 ∷ 255 ∷ 127 ∷ []
unfolding bytes_of_all bytes_of rounded_to mul
bytes_at_16 = refl

pub bytes_at_24 : bytes_of_all 3 (word_of 24) three ≡ 0 ∷ 1 ∷ 0 ∷ 128 ∷ 254 ∷ 255 ∷ 255 ∷ 255 ∷ 127 ∷ []
unfolding bytes_of_all bytes_of rounded_to mul
bytes_at_24 = refl

pub one_held : count (is_held 16) three ≡ 1
unfolding count is_past mul
one_held = refl
