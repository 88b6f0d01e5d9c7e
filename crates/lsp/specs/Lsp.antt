-- `lsp2mgc` and `lsp2en` of lsp.rs, at a stage s from 1 to 8. Assumes nothing.
use Rattle.std.specs.Prelude.{List, Bool, cond, ℕ, pos, length, set, Float}
use Rattle.std.specs.Float.{binary64}
use Rattle.std.specs.Float.Ieee.{of_int}
use Rattle.number.specs.F64.{−◌, ◌‼◌}
use Rattle.elementary.specs.Outcome.{Outcome, inside, ◌then◌}
use Rattle.exponential.specs.Exp.{exp_of}
use Rattle.vectors.specs.Vectors.{energy_of, times_from}
use Rattle.generalized.specs.Generalized.{ignorm_of, mgc2mgc_of}
use Rattle.lattice.specs.Lattice.{lsp2lpc_of}

-- entry 0 is the gain, or its logarithm
unfoldable pub gain_of : (logGain : Bool) → Float → Float
gain_of logGain x = cond logGain (exp_of x) x

-- THE MEL-GENERALIZED CEPSTRUM of line spectral pairs, of as many entries as there are pairs
unfoldable pub lsp2mgc_of : (logGain : Bool) (s : ℕ) → List Float → Outcome (List Float)
lsp2mgc_of logGain s lsp =
    lsp2lpc_of lsp then λ lpc.
    ignorm_of s (set lpc 0 (gain_of logGain (lsp ‼ 0))) then λ c.
    mgc2mgc_of s (length lsp) (times_from 1 (− (of_int binary64 (pos s))) c)

-- ITS ENERGY
unfoldable pub lsp2en_of : (logGain : Bool) (s : ℕ) → List Float → Outcome Float
lsp2en_of logGain s lsp = lsp2mgc_of logGain s lsp then λ mgc. inside (energy_of mgc)
