-- Bounds of what a sum still has to take, as bit patterns. Assumes nothing.
use Rattle.std.specs.Prelude.{true, false, List, [], ◌∷◌, ℕ, zero, suc, ◌*◌, ◌≤◌, ◌<◌, pos, get_or, Float}
use Rattle.std.proofs.Common.{arith, lit≤}
use Rattle.std.specs.Float.{fin}
use Rattle.std.specs.Float.Ieee.{fits, to_bits}
use Rattle.number.specs.F64.{◌‼◌}
use Rattle.lost.specs.Lost.{UpTo}

-- place i of t bounds the entries of w from i on, n in all
abbrev pub Tops : ℕ → List ℕ → List Float → Type 0
Tops n t w = (i j : ℕ) → i ≤ j → j < n → UpTo (get_or t i 0) (w ‼ j)

-- p bounds the first n entries of both responses in r
abbrev pub Highest : ℕ → ℕ → List Float → Type 0
Highest p n r = (j : ℕ) → j < 2 * n → UpTo p (r ‼ j)

-- of -2 and 1 the first is the larger: the patterns of 2 and of 1 bound what comes from either on, and that of 2 both
abbrev two_and_one : List Float
two_and_one = fin true 1 (pos 1) ∷ fin false 1 (pos 0) ∷ []

pub tops_example : Tops 2 (0x4000_0000_0000_0000 ∷ 0x3ff0_0000_0000_0000 ∷ []) two_and_one
unfolding fits to_bits
tops_example zero zero h l = record { held = tt; size = lit≤ tt }
tops_example zero (suc zero) h l = record { held = tt; size = lit≤ tt }
tops_example (suc zero) zero h l = absurd (omega arith)
tops_example (suc zero) (suc zero) h l = record { held = tt; size = lit≤ tt }
tops_example (suc (suc i)) zero h l = absurd (omega arith)
tops_example (suc (suc i)) (suc zero) h l = absurd (omega arith)
tops_example i (suc (suc j)) h l = absurd (omega arith)

pub highest_example : Highest 0x4000_0000_0000_0000 1 two_and_one
unfolding fits to_bits
highest_example zero l = record { held = tt; size = lit≤ tt }
highest_example (suc zero) l = record { held = tt; size = lit≤ tt }
highest_example (suc (suc j)) l = absurd (omega arith)
