-- What the filters under C names ask for, and what they leave. Assumes nothing.
use Rattle.std.specs.Prelude.{◌≡◌, refl, Bool, true, false, ◌&&◌, List, [], ◌∷◌, ℕ, zero, suc, ◌*◌, eqb}
use Rattle.history.specs.Through.{Passage, passage}
use Rattle.limits.specs.Limits.{entries_of, stage_of}

-- n coefficients, as many increments, six rows of n taps in d21, and six entries in each of d11, d12, d22
abbrev pub zero_fits : (n increments d11 d12 d21 d22 : ℕ) → Bool
zero_fits n increments d11 d12 d21 d22 = entries_of n increments && (eqb d21 (6 * n) && (eqb d11 6 && (eqb d12 6 && eqb d22 6)))

-- n coefficients, as many increments, and a row of n taps for each of 1 to 8 stages
abbrev pub nonzero_fits : (n increments stages d : ℕ) → Bool
nonzero_fits n increments stages d = entries_of n increments && (stage_of stages && eqb d (stages * n))

-- document 01's numbers: 0 done, 1 where a limit is broken
abbrev pub number_of : (fits : Bool) → ℕ
number_of true = 0
number_of false = 1

-- what is left where the answer is 0, and nothing changed where it is another
abbrev pub done_where : {State Sample : Type 0} → ℕ → (State → List Sample → Passage State Sample) → State → List Sample → Passage State Sample
done_where zero done state samples = done state samples
done_where (suc n) done state samples = passage samples state

-- ---- at computed points

-- three coefficients want 18 taps in the rows; five entries of d22 are too few
pub three_fit : zero_fits 3 3 6 6 18 6 ≡ true
three_fit = refl

pub five_do_not : zero_fits 3 3 6 6 18 5 ≡ false
five_do_not = refl

-- two stages of three coefficients; no stage
pub two_stages_fit : nonzero_fits 3 3 2 6 ≡ true
two_stages_fit = refl

pub no_stage : nonzero_fits 3 3 0 0 ≡ false
no_stage = refl

pub refused_number : number_of false ≡ 1
refused_number = refl

-- refused, nothing is done
pub left_alone : done_where 1 (λ (s : ℕ) (xs : List ℕ). passage [] 9) 7 (5 ∷ []) ≡ passage (5 ∷ []) 7
left_alone = refl

pub done_so : done_where 0 (λ (s : ℕ) (xs : List ℕ). passage [] 9) 7 (5 ∷ []) ≡ passage [] 9
done_so = refl
