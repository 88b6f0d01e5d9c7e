-- What the sums of the impulse response take of a cepstrum, made once. Assumes nothing.
use Rattle.std.specs.Prelude.{◌≡◌, refl, List, [], ◌∷◌, false, ℕ, ◌-◌, pos, Float}
use Rattle.std.specs.Float.{fin, binary64}
use Rattle.std.specs.Float.Ieee.{of_int, of_bits, mul}
use Rattle.number.specs.F64.{◌⊗◌, ◌‼◌, 0f, 1f, 2f}
use Rattle.vectors.specs.Vectors.{grown}

-- k * c[k] for each k below n
abbrev pub weight : List Float → ℕ → Float
weight c k = of_int binary64 (pos k) ⊗ c ‼ k

unfoldable pub weights_of : ℕ → List Float → List Float
weights_of n c = grown (λ _. weight c) n

-- a term of the sum for entry i, with the weights w
abbrev pub weighed_term : (w ir : List Float) (i k : ℕ) → Float
weighed_term w ir i k = w ‼ k ⊗ ir ‼ (i - k)

-- of [1, 1, 2]: 0, 1, 4
pub three_weights : weights_of 3 (1f ∷ 1f ∷ 2f ∷ []) ≡ fin false 0 (pos 0) ∷ fin false 1 (pos 0) ∷ fin false 1 (pos 2) ∷ []
unfolding weights_of grown of_bits of_int mul
three_weights = refl

-- the first term for entry 2, where the response begins with 1, 2: 1 * 2
pub first_term : weighed_term (0f ∷ 1f ∷ 2f ∷ []) (1f ∷ 2f ∷ []) 2 1 ≡ fin false 1 (pos 1)
unfolding of_bits mul
first_term = refl
