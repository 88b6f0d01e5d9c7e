-- `gnorm` and `ignorm` of generalized.rs, `gc2gc` and `mgc2mgc` of cepstrum.rs, at the gamma of a stage s from 1 to 8. Assumes nothing.
use Rattle.std.specs.Prelude.{List, ◌∷◌, map, ℕ, zero, suc, ◌-◌, pos, drop, Float}
use Rattle.std.specs.Float.{binary64}
use Rattle.std.specs.Float.Ieee.{of_int}
use Rattle.number.specs.F64.{◌⊕◌, ◌⊖◌, ◌⊗◌, ◌⊘◌, −◌, ◌‼◌, 0f, 1f}
use Rattle.elementary.specs.Outcome.{Outcome, inside, ◌then◌, of_answer}
use Rattle.power.specs.Power.{inverse_power_of, inverse_root_of}
use Rattle.vectors.specs.Vectors.{sum_from, grown}

-- -1 / s; 1 / gamma is exactly -s
unfoldable pub gamma_of : ℕ → Float
gamma_of s = − 1f ⊘ of_int binary64 (pos s)

-- THE GAIN NORMALISED: for k = 1 + gamma * c[0], the gain is k to the 1 / gamma, and the others are divided by k
unfoldable pub gnorm_of : ℕ → List Float → Outcome (List Float)
gnorm_of s c =
    let k = 1f ⊕ gamma_of s ⊗ c ‼ 0 in
    of_answer (inverse_power_of k s) then λ gain. inside (gain ∷ map (λ x. x ⊘ k) (drop 1 c))

-- AND BACK: for k = c[0] to the gamma, c[0] is (k - 1) / gamma, and the others are multiplied by k
unfoldable pub ignormed_by : ℕ → (k : Float) → List Float → List Float
ignormed_by s k c = (k ⊖ 1f) ⊘ gamma_of s ∷ map (λ x. x ⊗ k) (drop 1 c)

unfoldable pub ignorm_of : ℕ → List Float → Outcome (List Float)
ignorm_of s c = of_answer (inverse_root_of (c ‼ 0) s) then λ k. inside (ignormed_by s k c)

-- THE CEPSTRUM TO n ENTRIES, as many as c has or fewer. Entry i, from c and the entries d before it: with cc = c[k] * d[i - k], the
-- sums of (i - k) * cc and of k * cc for k from 1 to below i
abbrev pub ss1_term : (c d : List Float) (i k : ℕ) → Float
ss1_term c d i k = of_int binary64 (pos (i - k)) ⊗ (c ‼ k ⊗ d ‼ (i - k))

abbrev pub ss2_term : (c d : List Float) (i k : ℕ) → Float
ss2_term c d i k = of_int binary64 (pos k) ⊗ (c ‼ k ⊗ d ‼ (i - k))

unfoldable pub gc2gc_entry : (gamma : Float) (c d : List Float) (i : ℕ) → Float
gc2gc_entry gamma c d zero = c ‼ 0
gc2gc_entry gamma c d (suc i) =
    let ss1 = sum_from (ss1_term c d (suc i)) 1 i 0f in
    let ss2 = sum_from (ss2_term c d (suc i)) 1 i 0f in
    c ‼ suc i ⊕ (gamma ⊗ ss2 ⊖ gamma ⊗ ss1) ⊘ of_int binary64 (pos (suc i))

unfoldable pub gc2gc_of : ℕ → (n : ℕ) → List Float → List Float
gc2gc_of s n c = grown (gc2gc_entry (gamma_of s) c) n

-- from one to the other at the same alpha and gamma, as `lsp2mgc` has it
unfoldable pub mgc2mgc_of : ℕ → (n : ℕ) → List Float → Outcome (List Float)
mgc2mgc_of s n c = gnorm_of s c then λ g. ignorm_of s (gc2gc_of s n g)
