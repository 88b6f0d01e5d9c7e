-- What giving a frame makes of its spectrum, as `synthesize` of mod.rs does. Assumes nothing.
use Rattle.std.specs.Prelude.{List, Bool, cond, ℕ, Float}
use Rattle.elementary.specs.Outcome.{Outcome, outside, inside, ◌then◌}
use Rattle.vectors.specs.Vectors.{times_from}
use Rattle.cepstrum.specs.Cepstrum.{mc2b_of}
use Rattle.generalized.specs.Generalized.{gamma_of, gnorm_of}
use Rattle.lsp.specs.Lsp.{lsp2mgc_of}
use Rattle.stability.specs.Stability.{stable_of}
use Rattle.postfilter.specs.Mel.{postfilter_mcp_of}
use Rattle.postfilter.specs.Pairs.{postfilter_lsp_of}

-- the coefficients that the frame starts from, and its targets
pub record Spectra : Type 0 where
  pub start : List Float
  pub targets : List Float

-- both, or outside where one of them is
abbrev pub both : Outcome (List Float) → Outcome (List Float) → Outcome Spectra
both starts targets = starts then λ s. targets then λ t. inside (record { start = s; targets = t })

-- only the first frame's start comes from its spectrum
abbrev pub start_if : (first : Bool) → Outcome (List Float) → (now : List Float) → Outcome (List Float)
start_if first starts now = cond first starts (inside now)

-- what the two arrays hold afterwards: where it is outside, what they held
abbrev pub start_after : List Float → Outcome Spectra → List Float
start_after start outside = start
start_after start (inside p) = p.start

abbrev pub targets_after : List Float → Outcome Spectra → List Float
targets_after targets outside = targets
targets_after targets (inside p) = p.targets

-- ---- STAGE 0: the coefficients of the mel-cepstrum, of which the targets' is postfiltered

unfoldable pub targets_mcp : (alpha beta : Float) → List Float → Outcome (List Float)
targets_mcp alpha beta c = postfilter_mcp_of alpha beta c then λ t. inside (mc2b_of alpha t)

unfoldable pub prepared_mcp : (alpha beta : Float) (first : Bool) (now : List Float) → List Float → Outcome Spectra
prepared_mcp alpha beta first now c = both (start_if first (inside (mc2b_of alpha c)) now) (targets_mcp alpha beta c)

-- ---- STAGE 1 OR MORE: the normalised coefficients of the pairs, from the second on times gamma

unfoldable pub coefficients_of : (alpha : Float) (logGain : Bool) (s : ℕ) → List Float → Outcome (List Float)
coefficients_of alpha logGain s lsp = lsp2mgc_of logGain s lsp then λ mgc. gnorm_of s (mc2b_of alpha mgc) then λ b. inside (times_from 1 (gamma_of s) b)

-- the targets' pairs are postfiltered and then repaired
unfoldable pub targets_lsp : (alpha beta : Float) (logGain : Bool) (s : ℕ) → List Float → Outcome (List Float)
targets_lsp alpha beta logGain s lsp = postfilter_lsp_of beta logGain s lsp then λ t. coefficients_of alpha logGain s (stable_of t)

unfoldable pub prepared_lsp : (alpha beta : Float) (logGain : Bool) (s : ℕ) (first : Bool) (now : List Float) → List Float → Outcome Spectra
prepared_lsp alpha beta logGain s first now lsp = both (start_if first (coefficients_of alpha logGain s lsp) now) (targets_lsp alpha beta logGain s lsp)
