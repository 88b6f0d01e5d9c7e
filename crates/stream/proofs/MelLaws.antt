-- The coefficients of a mel-cepstrum, postfiltered or not, are as many as its entries. Assumes nothing.
use mathlib.Core.Path.{◌≡◌, refl, ap, ◌∙◌}
use mathlib.Core.List.{List, [], ◌∷◌}
use Prim.Native.Nat.{ℕ, suc}
use native.Mathlib.Omega.{arith}
use lib.ListN.{length, set, length-set, length-append, length-take, length-drop, length-map}
use lib.Ieee.{Float, ne}
use Rattle.number.specs.F64.{◌⊕◌, ◌⊘◌, ◌‼◌, 0f, 1f, 2f}
use Rattle.elementary.specs.Outcome.{inside, of_answer}
use Rattle.logarithm.specs.Ln.{ln_of}
use Rattle.vectors.specs.Vectors.{times_from}
use Rattle.cepstrum.specs.Cepstrum.{unwarped, mc2b_of, b2mc_of, b2en_of}
use Rattle.postfilter.specs.Mel.{acts, sharpened_of, filtered_mcp, postfilter_mcp_of}
use Rattle.prepare.specs.Preparing.{targets_mcp}
use Rattle.held.proofs.OutcomesKeep.{either, Inside, then_such, then_any}

-- n entries
abbrev pub Has : ℕ → List Float → Type 0
Has n l = length l ≡ n

pub length_times : (j : ℕ) (k : Float) (l : List Float) → length (times_from j k l) ≡ length l
unfolding times_from
length_times j k l = simp (length-append, length-map, length-take, length-drop) (omega arith)

module _ (alpha : Float) where
  length_unwarped : (l : List Float) → length (unwarped alpha l) ≡ length l
  unfolding unwarped
  length_unwarped [] = refl
  length_unwarped (x ∷ l) = ap suc (length_unwarped l)

  pub length_mc2b : (l : List Float) → length (mc2b_of alpha l) ≡ length l
  unfolding mc2b_of
  length_mc2b l = either (λ (m : List Float). length m ≡ length l) (ne alpha 0f) (unwarped alpha l) l (length_unwarped l) refl

  length_b2mc : (l : List Float) → length (b2mc_of alpha l) ≡ length l
  unfolding b2mc_of
  length_b2mc [] = refl
  length_b2mc (x ∷ l) = ap suc (length_b2mc l)

  module _ (beta : Float) where
    length_sharpened : (b : List Float) → length (sharpened_of alpha beta b) ≡ length b
    unfolding sharpened_of
    length_sharpened b = length_times 2 (1f ⊕ beta) _ ∙ length-set b 1 _

    filtered_of : (c : List Float) → Inside (Has (length c)) (filtered_mcp alpha beta c)
    unfolding filtered_mcp
    filtered_of c =
        let b = mc2b_of alpha c in
        let t = sharpened_of alpha beta b in
        then_any (Has (length c)) (of_answer (ln_of (b2en_of alpha b ⊘ b2en_of alpha t))) (λ y. inside (b2mc_of alpha (set t 0 (t ‼ 0 ⊕ y ⊘ 2f))))
        (λ y. length_b2mc (set t 0 (t ‼ 0 ⊕ y ⊘ 2f)) ∙ length-set t 0 (t ‼ 0 ⊕ y ⊘ 2f) ∙ length_sharpened b ∙ length_mc2b c)

    pub targets_mcp_lem : (c : List Float) → Inside (Has (length c)) (targets_mcp alpha beta c)
    unfolding targets_mcp postfilter_mcp_of
    targets_mcp_lem c =
        then_such (Has (length c)) (Has (length c)) (postfilter_mcp_of alpha beta c) (λ t. inside (mc2b_of alpha t))
        (either (Inside (Has (length c))) (acts beta (length c)) (filtered_mcp alpha beta c) (inside c) (filtered_of c) refl)
        (λ t h. length_mc2b t ∙ h)
