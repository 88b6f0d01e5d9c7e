-- A filling in three passes: the pairs are found, their weights made, and their numbers multiplied by the roots. Assumes nothing.
use Rattle.std.specs.Prelude.{◌≡◌, refl, List, [], ◌∷◌, ◌++◌, false, ℕ, zero, suc, ◌<◌, pos, T, Float, Option, None, Some}
use Rattle.std.specs.Float.{fin}
use Rattle.std.specs.Float.Ieee.{of_bits, to_bits, of_int, round, add, sub, mul, div, neg, eq, le, lt}
use Rattle.number.specs.F64.{◌⊗◌, ◌⊘◌, −◌, ◌‼◌, 0f, 1f, 2f}
use Rattle.elementary.specs.Series.{odd_number}
use Rattle.elementary.specs.Horner.{horner}
use Rattle.elementary.specs.Band.{number_of}
use Rattle.elementary.specs.Exact.{ln_inside}
use Rattle.logarithm.specs.Ln.{coefficient, sum_of, near_one, field, part, turns, of_pattern, ln_of}
use Rattle.history.specs.Steps.{dry, running, steps}
use Rattle.noise.specs.Noise.{multiplier_of, pair_of, concat, filling_of}

-- -2 ln s / s, of which the multiplier is the root
unfoldable pub weight_of : Float → Float
weight_of s = − 2f ⊗ number_of (ln_of s) ⊘ s

-- ln 1 is 0
pub weight_of_one : weight_of 1f ≡ − 0f
unfolding weight_of number_of ln_of of_pattern part field turns near_one sum_of horner coefficient odd_number round of_bits to_bits of_int add sub mul div neg eq le lt
weight_of_one = refl

-- n pairs, one after the other: the numbers of pair k times m k
unfoldable pub pairs_of : (ℕ → Float) → ℕ → List Float → List Float → List Float
pairs_of m zero firsts seconds = []
pairs_of m (suc n) firsts seconds = pairs_of m n firsts seconds ++ (firsts ‼ n ⊗ m n ∷ seconds ‼ n ⊗ m n ∷ [])

pub pairs_doubled : pairs_of (λ k. 2f) 2 (1f ∷ 1f ∷ []) (1f ∷ 2f ∷ []) ≡ fin false 1 (pos 1) ∷ fin false 1 (pos 1) ∷ fin false 1 (pos 1) ∷ fin false 1 (pos 2) ∷ []
unfolding pairs_of mul of_bits
pairs_doubled = refl

-- the numbers and the sums of the first i pairs, by the values that they make
pub record Gathered (bound next i now : ℕ) (firsts seconds sums : List Float) : Type 0 where
  pub run : steps (pair_of bound) i next ≡ running (steps (pair_of bound) i next).made now
  pub values : concat (steps (pair_of bound) i next).made ≡ pairs_of (λ k. multiplier_of (sums ‼ k)) i firsts seconds
  pub inside : (k : ℕ) → k < i → T (ln_inside (sums ‼ k))

-- what `find_pairs` answers: all 32, or that the filling is dry
abbrev pub Gathers : ℕ → ℕ → Option ℕ → List Float → List Float → List Float → Type 0
Gathers bound next None firsts seconds sums = dry ≡ filling_of bound next
Gathers bound next (Some now) firsts seconds sums = Gathered bound next 32 now firsts seconds sums
