-- What each answer makes of preparing. Assumes nothing.
use mathlib.Core.Path.{◌≡◌, refl}
use mathlib.Core.List.{List}
use mathlib.Core.Bool.{Bool, true, false, cond}
use Prim.Native.Nat.{ℕ}
use lib.Ieee.{Float}
use Rattle.elementary.specs.Outcome.{outside, inside}
use Rattle.vectors.specs.Vectors.{times_from}
use Rattle.cepstrum.specs.Cepstrum.{mc2b_of}
use Rattle.generalized.specs.Generalized.{gamma_of, gnorm_of}
use Rattle.lsp.specs.Lsp.{lsp2mgc_of}
use Rattle.stability.specs.Stability.{stable_of}
use Rattle.postfilter.specs.Mel.{postfilter_mcp_of}
use Rattle.postfilter.specs.Pairs.{postfilter_lsp_of}
use Rattle.prepare.specs.Preparing.{start_if, targets_mcp, prepared_mcp, coefficients_of, targets_lsp, prepared_lsp}

-- ---- a mel-cepstrum: the postfilter's outcome decides

module _ (alpha beta : Float) (now c l : List Float) (e : l ≡ c) where
  pub mcp_outside : (first : Bool) → postfilter_mcp_of alpha beta l ≡ outside → prepared_mcp alpha beta first now c ≡ outside
  unfolding prepared_mcp targets_mcp
  mcp_outside true o = rw (← e, o) refl
  mcp_outside false o = rw (← e, o) refl

  pub mcp_inside : (first : Bool) (t start targets : List Float) → postfilter_mcp_of alpha beta l ≡ inside t → start ≡ cond first (mc2b_of alpha c) now → targets ≡ mc2b_of alpha t
      → prepared_mcp alpha beta first now c ≡ inside (record { start = start; targets = targets })
  unfolding prepared_mcp targets_mcp
  mcp_inside true t start targets i es et = rw (es, et, ← e, i) refl
  mcp_inside false t start targets i es et = rw (es, et, ← e, i) refl

-- ---- line spectral pairs

module _ (alpha : Float) (log : Bool) (s : ℕ) (lsp : List Float) where
  pub coefficients_outside : lsp2mgc_of log s lsp ≡ outside → coefficients_of alpha log s lsp ≡ outside
  unfolding coefficients_of
  coefficients_outside o = rw o refl

  module _ (mgc b : List Float) (i : lsp2mgc_of log s lsp ≡ inside mgc) (e : b ≡ mc2b_of alpha mgc) where
    pub coefficients_outside_norm : gnorm_of s b ≡ outside → coefficients_of alpha log s lsp ≡ outside
    unfolding coefficients_of
    coefficients_outside_norm o = rw (i, ← e, o) refl

    pub coefficients_inside : (n m : List Float) (g : Float) → gnorm_of s b ≡ inside n → g ≡ gamma_of s → m ≡ times_from 1 g n → coefficients_of alpha log s lsp ≡ inside m
    unfolding coefficients_of
    coefficients_inside n m g j eg em = rw (i, ← e, j, em, eg) refl

  module _ (beta : Float) (l : List Float) (e : l ≡ lsp) where
    pub targets_outside : postfilter_lsp_of beta log s l ≡ outside → targets_lsp alpha beta log s lsp ≡ outside
    unfolding targets_lsp
    targets_outside o = rw (← e, o) refl

    pub targets_of : (t u : List Float) → postfilter_lsp_of beta log s l ≡ inside t → u ≡ stable_of t → targets_lsp alpha beta log s lsp ≡ coefficients_of alpha log s u
    unfolding targets_lsp
    targets_of t u i eu = rw (← e, i, eu) refl

  module _ (beta : Float) (first : Bool) (now : List Float) where
    pub lsp_outside_start : start_if first (coefficients_of alpha log s lsp) now ≡ outside → prepared_lsp alpha beta log s first now lsp ≡ outside
    unfolding prepared_lsp
    lsp_outside_start o = rw o refl

    pub lsp_outside_targets : (start : List Float) → start_if first (coefficients_of alpha log s lsp) now ≡ inside start → targets_lsp alpha beta log s lsp ≡ outside → prepared_lsp alpha beta log s first now lsp ≡ outside
    unfolding prepared_lsp
    lsp_outside_targets start i o = rw (i, o) refl

    pub lsp_inside : (start targets : List Float) → start_if first (coefficients_of alpha log s lsp) now ≡ inside start → targets_lsp alpha beta log s lsp ≡ inside targets
        → prepared_lsp alpha beta log s first now lsp ≡ inside (record { start = start; targets = targets })
    unfolding prepared_lsp
    lsp_inside start targets i j = rw (i, j) refl
