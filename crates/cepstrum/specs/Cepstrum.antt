-- `mc2b`, `freqt` and `c2ir` of cepstrum.rs, `b2mc` and `b2en` of coefficients.rs. Assumes nothing.
use Rattle.std.specs.Prelude.{List, [], ◌∷◌, cond, ℕ, zero, suc, ◌-◌, pos, replicate, Float}
use Rattle.std.specs.Float.{binary64}
use Rattle.std.specs.Float.Ieee.{ne, of_int}
use Rattle.number.specs.F64.{◌⊕◌, ◌⊖◌, ◌⊗◌, ◌⊘◌, −◌, ◌‼◌, 0f, 1f}
use Rattle.exponential.specs.Exp.{exp_of}
use Rattle.vectors.specs.Vectors.{sum_from, energy_of, grown}

-- x - alpha * b and x + alpha * b for the first b of a list; x where there is none
abbrev pub minus_next : Float → Float → List Float → Float
minus_next alpha x [] = x
minus_next alpha x (b ∷ bs) = x ⊖ alpha ⊗ b

abbrev pub plus_next : Float → Float → List Float → Float
plus_next alpha x [] = x
plus_next alpha x (b ∷ bs) = x ⊕ alpha ⊗ b

-- b[i] = c[i] - alpha * b[i + 1], from the last one down, which stays
unfoldable pub unwarped : Float → List Float → List Float
unwarped alpha [] = []
unwarped alpha (c ∷ cs) = let bs = unwarped alpha cs in minus_next alpha c bs ∷ bs

-- THE COEFFICIENTS of a mel-cepstrum; at alpha 0 they are its copy
unfoldable pub mc2b_of : Float → List Float → List Float
mc2b_of alpha c = cond (ne alpha 0f) (unwarped alpha c) c

-- THE MEL-CEPSTRUM of coefficients: c[i] = b[i] + alpha * b[i + 1]; the last one stays
unfoldable pub b2mc_of : Float → List Float → List Float
b2mc_of alpha [] = []
b2mc_of alpha (b ∷ bs) = plus_next alpha b bs ∷ b2mc_of alpha bs

-- a pass of `freqt` over g takes x in. From the third entry on: the one before as it was, plus alpha * (this one - the one before as it is)
unfoldable pub onward : Float → (old new : Float) → List Float → List Float
onward alpha old new [] = []
onward alpha old new (g ∷ gs) = let next = old ⊕ alpha ⊗ (g ⊖ new) in next ∷ onward alpha g next gs

-- the second: (1 - alpha * alpha) * the first as it was, plus alpha * the second
abbrev pub second : Float → (first : Float) → List Float → List Float
second alpha first [] = []
second alpha first (g ∷ gs) = let next = (1f ⊖ alpha ⊗ alpha) ⊗ first ⊕ alpha ⊗ g in next ∷ onward alpha g next gs

-- the first: x + alpha * the first
unfoldable pub pass : Float → (x : Float) → List Float → List Float
pass alpha x [] = []
pass alpha x (g ∷ gs) = x ⊕ alpha ⊗ g ∷ second alpha g gs

-- a pass for each coefficient, in rising index
unfoldable pub passes : Float → List Float → List Float → List Float
passes alpha [] g = g
passes alpha (x ∷ xs) g = passes alpha xs (pass alpha x g)

-- THE WARPED CEPSTRUM of n entries, from zeros (m2 of the Rust is n - 1)
unfoldable pub freqt_of : Float → ℕ → List Float → List Float
freqt_of alpha n c = passes alpha c (replicate n 0f)

-- THE IMPULSE RESPONSE of n entries: exp of c[0], and then the sum of k * c[k] * ir[i - k] for k from 1 to i, over i
abbrev pub ir_term : (c ir : List Float) (i k : ℕ) → Float
ir_term c ir i k = of_int binary64 (pos k) ⊗ c ‼ k ⊗ ir ‼ (i - k)

abbrev pub ir_entry : (c ir : List Float) (i : ℕ) → Float
ir_entry c ir zero = exp_of (c ‼ 0)
ir_entry c ir (suc i) = sum_from (ir_term c ir (suc i)) 1 (suc i) 0f ⊘ of_int binary64 (pos (suc i))

unfoldable pub c2ir_of : ℕ → List Float → List Float
c2ir_of n c = grown (ir_entry c) n

-- the energy of the impulse response, all on n numbers
unfoldable pub energy_on : ℕ → Float → List Float → Float
energy_on n alpha b = energy_of (c2ir_of n (freqt_of (− alpha) n (b2mc_of alpha b)))

-- THE ENERGY of coefficients: on 576 numbers
unfoldable pub b2en_of : Float → List Float → Float
b2en_of alpha b = energy_on 576 alpha b
