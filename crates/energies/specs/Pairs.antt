-- Two lists in one, place by place: entry i of the first at 2 * i, of the second at 2 * i + 1. Assumes nothing.
use Rattle.std.specs.Prelude.{◌≡◌, refl, List, [], ◌∷◌, ℕ, drop}

module _ {ℓ} {A : Type ℓ} where
  -- the entries at even places, and those at odd ones
  unfoldable pub evens : List A → List A
  evens [] = []
  evens (x ∷ []) = x ∷ []
  evens (x ∷ y ∷ l) = x ∷ evens l

  unfoldable pub odds : List A → List A
  unfolding evens
  odds l = evens (drop 1 l)

-- five numbers to show them on
abbrev five : List ℕ
five = 5 ∷ 6 ∷ 7 ∷ 8 ∷ 9 ∷ []

pub evens_example : evens five ≡ 5 ∷ 7 ∷ 9 ∷ []
unfolding evens
evens_example = refl

pub odds_example : odds five ≡ 6 ∷ 8 ∷ []
unfolding odds evens
odds_example = refl
