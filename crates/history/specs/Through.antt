-- A machine that turns each sample into another, one at a time. Assumes nothing.
use Rattle.std.specs.Prelude.{◌≡◌, refl, List, [], ◌∷◌, ◌++◌, ℕ, ◌+◌}

-- What it makes of a sample, and the state after it.
pub record Turned (State Sample : Type 0) : Type 0 where
  pub sample : Sample
  pub state : State

-- What it makes of some samples, and the state after the last of them.
pub record Passage (State Sample : Type 0) : Type 0 where
  pub made : List Sample
  pub state : State

module _ {State Sample : Type 0} where
  abbrev pub passage : List Sample → State → Passage State Sample
  passage made state = record { made = made; state = state }

  -- the samples before, and then those of the passage
  abbrev pub ◌before◌ : List Sample → Passage State Sample → Passage State Sample
  xs before p = passage (xs ++ p.made) p.state

  infixr 40 ◌before◌
  -- the samples xs, one after the other, from a state on
  unfoldable pub through : (State → Sample → Turned State Sample) → State → List Sample → Passage State Sample
  through turn state [] = passage [] state
  through turn state (x ∷ xs) = let t = turn state x in (t.sample ∷ []) before through turn t.state xs

-- adds to each what came before
abbrev pub adding : ℕ → ℕ → Turned ℕ ℕ
adding sum x = record { sample = sum + x; state = sum + x }

pub three_added : through adding 1 (2 ∷ 3 ∷ 4 ∷ []) ≡ passage (3 ∷ 6 ∷ 10 ∷ []) 10
unfolding through
three_added = refl
