-- A buffer that is filled from the front, and rows of a flat array. Assumes nothing.
use Rattle.std.specs.Prelude.{◌≡◌, ℕ, ◌-◌, List, [], ◌∷◌, ◌++◌, take, drop, refl}

module _ {ℓ} {A : Type ℓ} where
  -- the buffer d with xs in its first i places, and the rest as it was
  abbrev pub over : List A → ℕ → List A → List A
  over xs i d = xs ++ drop i d

  -- the elements from a up to, and without, e
  abbrev pub row : ℕ → ℕ → List A → List A
  row a e l = take (e - a) (drop a l)

  -- l with r in their place: the form in which `&mut l[a..e]` comes back
  abbrev pub put_row : ℕ → ℕ → List A → List A → List A
  put_row a e r l = take a l ++ (r ++ drop (e - a) (drop a l))

-- four numbers to show them on
abbrev pub four : List ℕ
four = 5 ∷ 6 ∷ 7 ∷ 8 ∷ []

pub over_example : over (1 ∷ 2 ∷ []) 2 four ≡ 1 ∷ 2 ∷ 7 ∷ 8 ∷ []
over_example = refl

pub row_example : row 1 3 four ≡ 6 ∷ 7 ∷ []
row_example = refl

pub put_row_example : put_row 1 3 (1 ∷ 2 ∷ []) four ≡ 5 ∷ 1 ∷ 2 ∷ 8 ∷ []
put_row_example = refl
