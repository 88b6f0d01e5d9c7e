-- What each answer makes of the postfilters. Assumes nothing.
use mathlib.Core.Path.{◌≡◌, refl}
use mathlib.Core.List.{List}
use mathlib.Core.Bool.{Bool, true, false}
use Prim.Native.Nat.{ℕ, ◌+◌, ◌-◌, ◌<◌}
use lib.Ieee.{Float, ne}
use lib.ListN.{length, set}
use Rattle.number.specs.F64.{◌⊕◌, ◌⊗◌, ◌⊘◌, ◌‼◌, ½f, 2f}
use Rattle.number.specs.Lists.{over}
use Rattle.number.proofs.Lists.{over_more}
use Rattle.std.specs.Prelude.{Ok, Err}
use Rattle.elementary.specs.Outcome.{outside, inside}
use Rattle.root.specs.Root.{root_of}
use Rattle.logarithm.specs.Ln.{ln_of}
use Rattle.vectors.specs.Vectors.{grown}
use Rattle.vectors.proofs.VectorLaws.{length_grown, grown_more}
use Rattle.cepstrum.specs.Cepstrum.{mc2b_of, b2mc_of, b2en_of}
use Rattle.lsp.specs.Lsp.{lsp2en_of}
use Rattle.postfilter.specs.Mel.{acts, sharpened_of, filtered_mcp, postfilter_mcp_of}
use Rattle.postfilter.specs.Pairs.{spread_entry, spread_of, levelled, filtered_lsp, postfilter_lsp_of}

-- ---- of a mel-cepstrum

module _ (alpha beta : Float) (c : List Float) where
  pub mcp_acts : acts beta (length c) ≡ true → postfilter_mcp_of alpha beta c ≡ filtered_mcp alpha beta c
  unfolding postfilter_mcp_of
  mcp_acts e = rw e refl

  pub mcp_rests : acts beta (length c) ≡ false → postfilter_mcp_of alpha beta c ≡ inside c
  unfolding postfilter_mcp_of
  mcp_rests e = rw e refl

  module _ (b t : List Float) (e1 e2 : Float) (eb : b ≡ mc2b_of alpha c) (et : t ≡ sharpened_of alpha beta b) (en1 : e1 ≡ b2en_of alpha b) (en2 : e2 ≡ b2en_of alpha t) where
    pub mcp_outside : Err (record {}) ≡ ln_of (e1 ⊘ e2) → filtered_mcp alpha beta c ≡ outside
    unfolding filtered_mcp
    mcp_outside l = rw (← eb, ← et, ← en1, ← en2, ← l) refl

    pub mcp_inside : (y : Float) → Ok y ≡ ln_of (e1 ⊘ e2) → filtered_mcp alpha beta c ≡ inside (b2mc_of alpha (set t 0 (t ‼ 0 ⊕ y ⊘ 2f)))
    unfolding filtered_mcp
    mcp_inside y l = rw (← eb, ← et, ← en1, ← en2, ← l) refl

-- ---- of line spectral pairs

pub spread_turn : (beta : Float) (lsp buf d : List Float) (i : ℕ) → i < length d → buf ≡ over (grown (λ _. spread_entry beta lsp) i) i d
    → set buf i (spread_entry beta lsp i) ≡ over (grown (λ _. spread_entry beta lsp) (i + 1)) (i + 1) d
spread_turn beta lsp buf d i h e =
    let f : List Float → ℕ → Float = λ _. spread_entry beta lsp in
    rw (e, grown_more f i) (over_more (grown f i) d i (spread_entry beta lsp i) (length_grown f i) h)

module _ (log : Bool) (en1 en2 x : Float) where
  pub level_same : ne en1 en2 ≡ false → levelled log en1 en2 x ≡ inside x
  unfolding levelled
  level_same e = rw e refl

  module _ (d : ne en1 en2 ≡ true) where
    pub level_root : log ≡ false → levelled log en1 en2 x ≡ inside (x ⊗ root_of (en1 ⊘ en2))
    unfolding levelled
    level_root e = rw (d, e) refl

    module _ (e : log ≡ true) where
      pub level_outside : Err (record {}) ≡ ln_of (en1 ⊘ en2) → levelled log en1 en2 x ≡ outside
      unfolding levelled
      level_outside l = rw (d, e, ← l) refl

      pub level_log : (y : Float) → Ok y ≡ ln_of (en1 ⊘ en2) → levelled log en1 en2 x ≡ inside (x ⊕ ½f ⊗ y)
      unfolding levelled
      level_log y l = rw (d, e, ← l) refl

module _ (beta : Float) (log : Bool) (s : ℕ) (lsp : List Float) where
  pub lsp_acts : acts beta (length lsp) ≡ true → postfilter_lsp_of beta log s lsp ≡ filtered_lsp beta log s lsp
  unfolding postfilter_lsp_of
  lsp_acts e = rw e refl

  pub lsp_rests : acts beta (length lsp) ≡ false → postfilter_lsp_of beta log s lsp ≡ inside lsp
  unfolding postfilter_lsp_of
  lsp_rests e = rw e refl

  pub lsp_outside_before : lsp2en_of log s lsp ≡ outside → filtered_lsp beta log s lsp ≡ outside
  unfolding filtered_lsp
  lsp_outside_before o = rw o refl

  module _ (en1 : Float) (t : List Float) (i : lsp2en_of log s lsp ≡ inside en1) (et : t ≡ spread_of beta lsp) where
    pub lsp_outside_after : lsp2en_of log s t ≡ outside → filtered_lsp beta log s lsp ≡ outside
    unfolding filtered_lsp
    lsp_outside_after o = rw (i, ← et, o) refl

    module _ (en2 : Float) (j : lsp2en_of log s t ≡ inside en2) where
      pub lsp_outside_level : levelled log en1 en2 (t ‼ 0) ≡ outside → filtered_lsp beta log s lsp ≡ outside
      unfolding filtered_lsp
      lsp_outside_level o = rw (i, ← et, j, o) refl

      pub lsp_inside : (x : Float) → levelled log en1 en2 (t ‼ 0) ≡ inside x → filtered_lsp beta log s lsp ≡ inside (set t 0 x)
      unfolding filtered_lsp
      lsp_inside x k = rw (i, ← et, j, k) refl
