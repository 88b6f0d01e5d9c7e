-- A test of every entry, one after the other. Assumes nothing.
use mathlib.Core.Path.{◌≡◌, refl, ap}
use mathlib.Core.Bool.{Bool, true, false, ◌&&◌}
use mathlib.Core.List.{List, [], ◌∷◌}
use Rattle.std.specs.List.{list_all}
use Prim.Native.Nat.{ℕ, ◌+◌, ◌≤◌, ◌<◌}
use lib.ListN.{length, get_or, drop}
use Rattle.number.proofs.Lists.{left_next, left_none}
use Rattle.refusing.specs.Refusal.{every}

module _ {A : Type 0} (test : A → Bool) (l : List A) (i : ℕ) (z : A) where
  -- the rest passes as it does from the next entry on, where this one passes
  pub every_turn : i < length l → test (get_or l i z) ≡ true → every test (drop (i + 1) l) ≡ every test (drop i l)
  unfolding every
  every_turn h e = rw (left_next l i z h, e) refl

  pub every_fails : i < length l → test (get_or l i z) ≡ false → every test (drop i l) ≡ false
  unfolding every
  every_fails h e = rw (left_next l i z h, e) refl

  pub every_done : length l ≤ i → every test (drop i l) ≡ true
  unfolding every
  every_done h = rw (left_none l i h) refl

-- as the library says it of a list
pub every_is : {A : Type 0} (test : A → Bool) (l : List A) → list_all test l ≡ every test l
unfolding every
every_is test [] = refl
every_is test (x ∷ l) = ap (λ (b : Bool). test x && b) (every_is test l)
