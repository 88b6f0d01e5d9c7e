-- What a call of a width answers and writes, by the bits that were asked for: 1 and nothing where they are neither 16 nor 24. Assumes nothing.
use Rattle.std.specs.Prelude.{Option, None, Some, ◌≡◌, refl, List, [], ◌∷◌, ℕ}
use Rattle.riff.specs.declared.writing.Width.{Width}
use Rattle.riff.specs.declared.writing.Written.{Written}
use Rattle.riff.specs.Writing.{bytes_in, asked_of, refused}

abbrev pub answer_by : Option Width → (Width → Written) → Written
answer_by (Some width) f = f width
answer_by None f = refused 1

abbrev pub bytes_by : Option Width → (Width → List ℕ) → List ℕ
bytes_by (Some width) f = f width
bytes_by None f = []

-- 24 bits, and 20
pub known : bytes_by (asked_of 24) (λ w. bytes_in w ∷ []) ≡ 3 ∷ []
known = refl

pub unknown : answer_by (asked_of 20) (λ w. refused 22) ≡ refused 1
unknown = refl
