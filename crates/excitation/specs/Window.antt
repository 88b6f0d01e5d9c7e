-- The delay line in a window that slides along the samples. Assumes nothing.
use Rattle.std.specs.Prelude.{◌≡◌, refl, List, [], ◌∷◌, ℕ, length, take, drop, replicate, Float}
use Rattle.number.specs.F64.{0f, 1f, 2f}
use Rattle.number.specs.Lists.{over}
use Rattle.noise.specs.Draw.{tries}
use Rattle.excitation.specs.Excitation.{Excitation, stretch_of}

-- the line of so many taps that stands at i
abbrev pub line_at : ℕ → ℕ → List Float → List Float
line_at i taps window = take taps (drop i window)

pub second_line : line_at 1 2 (1f ∷ 1f ∷ 2f ∷ 0f ∷ []) ≡ 1f ∷ 2f ∷ []
second_line = refl

-- nothing but zeros from k on
abbrev pub ZeroFrom : ℕ → List Float → Type 0
ZeroFrom k window = drop k window ≡ drop k (replicate (length window) 0f)

pub two_zeros : ZeroFrom 1 (1f ∷ 0f ∷ 0f ∷ [])
two_zeros = refl

-- as many samples of a stretch as `out` has room for: the state after them, their number, and where they stand
pub record Stretches (lpf : List Float) (first last : Excitation) (made : ℕ) (before out : List Float) : Type 0 where
  pub state : last ≡ (stretch_of tries lpf (length before) first).state
  pub count : made ≡ length (stretch_of tries lpf (length before) first).made
  pub stand : out ≡ over (stretch_of tries lpf (length before) first).made made before
