-- The coefficients of line spectral pairs, postfiltered and repaired or not, are as many as the pairs. Assumes nothing.
use mathlib.Core.Path.{◌≡◌, refl, subst, ◌∙◌}
use mathlib.Core.Bool.{Bool, false}
use mathlib.Core.List.{List, ◌∷◌, map}
use Prim.Native.Nat.{ℕ, zero, suc, ◌+◌, ◌-◌, ◌≤◌}
use native.Mathlib.Omega.{arith}
use lib.ListN.{length, drop, set, length-set, length-drop, length-map}
use lib.IntN.{pos}
use lib.Ieee.{Float, binary64, of_int, lt}
use Rattle.number.specs.F64.{◌⊕◌, ◌⊖◌, ◌⊗◌, ◌⊘◌, ◌‼◌, −◌, 1f}
use Rattle.elementary.specs.Outcome.{inside, ◌then◌, of_answer}
use Rattle.power.specs.Power.{inverse_power_of, inverse_root_of}
use Rattle.vectors.specs.Vectors.{times_from}
use Rattle.vectors.proofs.VectorLaws.{length_grown}
use Rattle.cepstrum.specs.Cepstrum.{mc2b_of}
use Rattle.generalized.specs.Generalized.{gamma_of, gnorm_of, ignormed_by, ignorm_of, gc2gc_entry, gc2gc_of, mgc2mgc_of}
use Rattle.lattice.specs.Lattice.{lsp2lpc_of}
use Rattle.lsp.specs.Lsp.{gain_of, lsp2mgc_of, lsp2en_of}
use Rattle.stability.specs.Stability.{PI, least_gap, Repair, found, widened, gap, gaps, low_end, high_end, pass_of, passes_of, stable_of}
use Rattle.postfilter.specs.Mel.{acts}
use Rattle.postfilter.specs.Pairs.{spread_entry, spread_of, levelled, filtered_lsp, postfilter_lsp_of}
use Rattle.prepare.specs.Preparing.{coefficients_of, targets_lsp}
use Rattle.held.proofs.OutcomesKeep.{either, Inside, then_such, then_any}
use Rattle.stream.proofs.MelLaws.{Has, length_times, length_mc2b}

-- a first entry, and the others of a list that is not empty
length_others : (n : ℕ) (f : Float → Float) (x : Float) (c : List Float) → 1 ≤ n → length c ≡ n → length (x ∷ map f (drop 1 c)) ≡ n
length_others n f x c h k = simp (length-map, length-drop) (omega arith)

module _ (s n : ℕ) (some : 1 ≤ n) where
  gnorm_of_lem : (c : List Float) → length c ≡ n → Inside (Has n) (gnorm_of s c)
  unfolding gnorm_of
  gnorm_of_lem c h =
      let k = 1f ⊕ gamma_of s ⊗ c ‼ 0 in
      then_any (Has n) (of_answer (inverse_power_of k s)) (λ gain. inside (gain ∷ map (λ x. x ⊘ k) (drop 1 c))) (λ gain. length_others n (λ x. x ⊘ k) gain c some h)

  ignorm_of_lem : (c : List Float) → length c ≡ n → Inside (Has n) (ignorm_of s c)
  unfolding ignorm_of ignormed_by
  ignorm_of_lem c h = then_any (Has n) (of_answer (inverse_root_of (c ‼ 0) s)) (λ k. inside (ignormed_by s k c)) (λ k. length_others n (λ x. x ⊗ k) ((k ⊖ 1f) ⊘ gamma_of s) c some h)

  mgc_of : (c : List Float) → Inside (Has n) (mgc2mgc_of s n c)
  unfolding mgc2mgc_of gc2gc_of
  mgc_of c = then_any (Has n) (gnorm_of s c) (λ g. ignorm_of s (gc2gc_of s n g)) (λ g. ignorm_of_lem (gc2gc_of s n g) (length_grown (gc2gc_entry (gamma_of s) g) n))

-- the repair of the pairs stores entries alone
abbrev Repaired : ℕ → Repair → Type 0
Repaired n r = length r.lsp ≡ n

module _ (n : ℕ) (min : Float) where
  repaired_gaps : (j m : ℕ) (r : Repair) → Repaired n r → Repaired n (gaps min j m r)
  unfolding gaps gap
  repaired_gaps j zero r h = h
  repaired_gaps j (suc m) r h =
      let l = r.lsp in
      repaired_gaps (suc j) m (gap min j r) (either (Repaired n) (lt (l ‼ (j + 1) ⊖ l ‼ j) min) (found (widened min j l)) r (simp length-set h) h)

  repaired_pass : (last : ℕ) (l : List Float) → length l ≡ n → Repaired n (pass_of min last l)
  unfolding pass_of low_end high_end
  repaired_pass last l h =
      let a = gaps min 1 (last - 1) (record { lsp = l; find = false }) in
      let all : Repaired n a = repaired_gaps 1 (last - 1) (record { lsp = l; find = false }) h in
      let low : Repaired n (low_end min a) = either (Repaired n) (lt (a.lsp ‼ 1) min) (found (set a.lsp 1 min)) a (length-set a.lsp 1 min ∙ all) all in
      let b = low_end min a in
      either (Repaired n) (lt (PI ⊖ min) (b.lsp ‼ last)) (found (set b.lsp last (PI ⊖ min))) b (length-set b.lsp last (PI ⊖ min) ∙ low) low

  length_passes : (last m : ℕ) (l : List Float) → length l ≡ n → length (passes_of min last m l) ≡ n
  unfolding passes_of
  length_passes last zero l h = h
  length_passes last (suc m) l h =
      let r = pass_of min last l in
      let k : Repaired n r = repaired_pass last l h in
      either (λ (t : List Float). length t ≡ n) r.find (passes_of min last m r.lsp) r.lsp (length_passes last m r.lsp k) k

length_stable : (l : List Float) → length (stable_of l) ≡ length l
unfolding stable_of
length_stable l = length_passes (length l) (least_gap (length l)) (length l - 1) 4 l refl

module _ (alpha : Float) (log : Bool) (s : ℕ) where
  pub coefficients_of_lem : (lsp : List Float) → 1 ≤ length lsp → Inside (Has (length lsp)) (coefficients_of alpha log s lsp)
  unfolding coefficients_of lsp2mgc_of
  coefficients_of_lem lsp h =
      let n = length lsp in
      let k = − (of_int binary64 (pos s)) in
      then_such (Has n) (Has n) (lsp2mgc_of log s lsp) (λ mgc. gnorm_of s (mc2b_of alpha mgc) then λ b. inside (times_from 1 (gamma_of s) b))
      (then_any (Has n) (lsp2lpc_of lsp) (λ lpc. ignorm_of s (set lpc 0 (gain_of log (lsp ‼ 0))) then λ c. mgc2mgc_of s n (times_from 1 k c))
      (λ lpc. then_any (Has n) (ignorm_of s (set lpc 0 (gain_of log (lsp ‼ 0)))) (λ c. mgc2mgc_of s n (times_from 1 k c)) (λ c. mgc_of s n h (times_from 1 k c))))
      (λ mgc e. then_such (Has n) (Has n) (gnorm_of s (mc2b_of alpha mgc)) (λ b. inside (times_from 1 (gamma_of s) b)) (gnorm_of_lem s n h (mc2b_of alpha mgc) (length_mc2b alpha mgc ∙ e))
      (λ b d. length_times 1 (gamma_of s) b ∙ d))

  postfiltered_of : (beta : Float) (lsp : List Float) → Inside (Has (length lsp)) (postfilter_lsp_of beta log s lsp)
  unfolding postfilter_lsp_of filtered_lsp spread_of
  postfiltered_of beta lsp =
      let n = length lsp in
      let l = spread_of beta lsp in
      either (Inside (Has n)) (acts beta n) (filtered_lsp beta log s lsp) (inside lsp)
      (then_any (Has n) (lsp2en_of log s lsp) (λ en1. lsp2en_of log s l then λ en2. levelled log en1 en2 (l ‼ 0) then λ x. inside (set l 0 x))
      (λ en1. then_any (Has n) (lsp2en_of log s l) (λ en2. levelled log en1 en2 (l ‼ 0) then λ x. inside (set l 0 x))
      (λ en2. then_any (Has n) (levelled log en1 en2 (l ‼ 0)) (λ x. inside (set l 0 x)) (λ x. length-set l 0 x ∙ length_grown (λ _. spread_entry beta lsp) n))))
      refl

  pub targets_lsp_lem : (beta : Float) (lsp : List Float) → 1 ≤ length lsp → Inside (Has (length lsp)) (targets_lsp alpha beta log s lsp)
  unfolding targets_lsp
  targets_lsp_lem beta lsp h =
      let n = length lsp in
      then_such (Has n) (Has n) (postfilter_lsp_of beta log s lsp) (λ t. coefficients_of alpha log s (stable_of t)) (postfiltered_of beta lsp)
      (λ t e. let k : length (stable_of t) ≡ n = length_stable t ∙ e in subst (λ (m : ℕ). Inside (Has m) (coefficients_of alpha log s (stable_of t))) k (coefficients_of_lem (stable_of t) (omega (arith, k, h))))
