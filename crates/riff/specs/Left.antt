-- What a lent buffer holds after a call. Assumes nothing.
use Rattle.std.specs.Prelude.{◌≡◌, refl, cond, List, [], ◌∷◌, ℕ, eqb, length}
use Rattle.number.specs.Lists.{over, four}

module _ {A : Type 0} where
  -- done, 0: what was made in front, and the rest as it was. By any other number it is refused, and all is as it was
  abbrev pub left : ℕ → List A → List A → List A
  left number made out = cond (eqb number 0) (over made (length made) out) out

pub left_done : left 0 (1 ∷ 2 ∷ []) four ≡ 1 ∷ 2 ∷ 7 ∷ 8 ∷ []
left_done = refl

pub left_refused : left 23 (1 ∷ 2 ∷ []) four ≡ four
left_refused = refl
