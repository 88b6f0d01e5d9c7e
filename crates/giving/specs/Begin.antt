-- The coefficients of a frame, by its stage, and their increments. Assumes nothing.
use Rattle.std.specs.Prelude.{◌≡◌, refl, Bool, cond, List, [], ◌∷◌, ℕ, eqb, pos, Float}
use Rattle.std.specs.Float.{binary64}
use Rattle.std.specs.Float.Ieee.{of_int, of_bits, sub, div, neg, add}
use Rattle.number.specs.F64.{◌⊖◌, ◌⊘◌, 0f, ½f, 1f, 2f}
use Rattle.elementary.specs.Outcome.{Outcome, outside, inside}
use Rattle.prepare.specs.Preparing.{Spectra, prepared_mcp, prepared_lsp}
use Rattle.configuration.specs.declared.Configuration.{Configuration}

unfoldable pub prepared_for : Configuration → (first : Bool) (now spectrum : List Float) → Outcome Spectra
prepared_for c first now spectrum =
    cond (eqb c.stage 0)
    (prepared_mcp c.alpha c.beta first now spectrum)
    (prepared_lsp c.alpha c.beta c.log c.stage first now spectrum)

-- (target - start) / n, entry by entry
unfoldable pub increments_of : ℕ → (targets start : List Float) → List Float
increments_of n [] start = []
increments_of n (t ∷ ts) [] = []
increments_of n (t ∷ ts) (s ∷ ss) = (t ⊖ s) ⊘ of_int binary64 (pos n) ∷ increments_of n ts ss

-- what the array of the increments holds afterwards
abbrev pub increments_after : ℕ → List Float → Outcome Spectra → List Float
increments_after n before outside = before
increments_after n before (inside p) = increments_of n p.targets p.start

pub two_increments : increments_of 2 (1f ∷ 2f ∷ []) (0f ∷ 1f ∷ []) ≡ ½f ∷ ½f ∷ []
unfolding increments_of of_int of_bits sub div neg add
two_increments = refl
