-- The coefficients that a frame's spectrum is prepared to are f64s. Assumes nothing.
use mathlib.Core.Bool.{Bool, cond}
use mathlib.Core.List.{List, [], ◌∷◌, map}
use Prim.Native.Nat.{ℕ, ◌-◌}
use lib.ListN.{length, drop, set}
use lib.Ieee.{Float, binary64, eq, ne}
use lib.Ieee.Bits.{of_bits-fits}
use lib.Ieee.Fits.{cond-fits, add-fits, sub-fits, div-fits}
use Rattle.number.specs.F64.{◌⊕◌, ◌⊖◌, ◌⊗◌, ◌⊘◌, ◌‼◌, 0f, 1f, 2f}
use Rattle.std.specs.Prelude.{Result, Ok, Err}
use Rattle.elementary.specs.declared.answer.Outside.{Outside}
use Rattle.elementary.specs.Outcome.{inside, ◌then◌, of_answer}
use Rattle.elementary.specs.Exact.{power_inside}
use Rattle.logarithm.specs.Ln.{ln_of}
use Rattle.power.specs.Power.{products, inverse_power_of}
use Rattle.vectors.specs.Vectors.{times_from}
use Rattle.cepstrum.specs.Cepstrum.{minus_next, plus_next, unwarped, mc2b_of, b2mc_of, b2en_of}
use Rattle.generalized.specs.Generalized.{gamma_of, gnorm_of}
use Rattle.lsp.specs.Lsp.{lsp2mgc_of}
use Rattle.stability.specs.Stability.{stable_of}
use Rattle.postfilter.specs.Mel.{acts, sharpened_of, filtered_mcp, postfilter_mcp_of}
use Rattle.postfilter.specs.Pairs.{postfilter_lsp_of}
use Rattle.prepare.specs.Preparing.{targets_mcp, coefficients_of, targets_lsp}
use Rattle.configuration.specs.declared.Configuration.{Configuration}
use Rattle.giving.specs.Begin.{prepared_for}
use Rattle.held.specs.Held.{Holds, AllHeld}
use Rattle.held.proofs.OutcomesKeep.{either, Inside, then_such, then_any, Both, prepared_such}
use Rattle.held.proofs.HeldLists.{held_take, held_set, held_map, held_times}

-- ---- stage 0

module _ (alpha : Float) where
  minus_held : (x : Float) (l : List Float) → Holds x → Holds (minus_next alpha x l)
  minus_held x [] h = h
  minus_held x (b ∷ l) h = sub-fits binary64 x (alpha ⊗ b)

  plus_held : (x : Float) (l : List Float) → Holds x → Holds (plus_next alpha x l)
  plus_held x [] h = h
  plus_held x (b ∷ l) h = add-fits binary64 x (alpha ⊗ b)

  unwarped_held : (l : List Float) → AllHeld l → AllHeld (unwarped alpha l)
  unfolding unwarped
  unwarped_held [] h = tt
  unwarped_held (x ∷ l) h = (minus_held x (unwarped alpha l) h.0, unwarped_held l h.1)

  mc2b_held : (l : List Float) → AllHeld l → AllHeld (mc2b_of alpha l)
  unfolding mc2b_of
  mc2b_held l h = either AllHeld (ne alpha 0f) (unwarped alpha l) l (unwarped_held l h) h

  b2mc_held : (l : List Float) → AllHeld l → AllHeld (b2mc_of alpha l)
  unfolding b2mc_of
  b2mc_held [] h = tt
  b2mc_held (x ∷ l) h = (plus_held x l h.0, b2mc_held l h.1)

  module _ (beta : Float) where
    sharpened_held : (b : List Float) → AllHeld b → AllHeld (sharpened_of alpha beta b)
    unfolding sharpened_of
    sharpened_held b h =
        let y = beta ⊗ alpha ⊗ b ‼ 2 in
        let l = set b 1 (b ‼ 1 ⊖ y) in
        held_times 2 (1f ⊕ beta) l (held_take 2 l (held_set b 1 (b ‼ 1 ⊖ y) (sub-fits binary64 (b ‼ 1) y) h))

    filtered_held : (c : List Float) → AllHeld c → Inside AllHeld (filtered_mcp alpha beta c)
    unfolding filtered_mcp
    filtered_held c h =
        let b = mc2b_of alpha c in
        let t = sharpened_of alpha beta b in
        let k : AllHeld t = sharpened_held b (mc2b_held c h) in
        then_any AllHeld (of_answer (ln_of (b2en_of alpha b ⊘ b2en_of alpha t))) (λ y. inside (b2mc_of alpha (set t 0 (t ‼ 0 ⊕ y ⊘ 2f))))
        (λ y. b2mc_held (set t 0 (t ‼ 0 ⊕ y ⊘ 2f)) (held_set t 0 (t ‼ 0 ⊕ y ⊘ 2f) (add-fits binary64 (t ‼ 0) (y ⊘ 2f)) k))

    postfilter_held : (c : List Float) → AllHeld c → Inside AllHeld (postfilter_mcp_of alpha beta c)
    unfolding postfilter_mcp_of
    postfilter_held c h = either (Inside AllHeld) (acts beta (length c)) (filtered_mcp alpha beta c) (inside c) (filtered_held c h) h

    targets_mcp_lem : (c : List Float) → AllHeld c → Inside AllHeld (targets_mcp alpha beta c)
    unfolding targets_mcp
    targets_mcp_lem c h = then_such AllHeld AllHeld (postfilter_mcp_of alpha beta c) (λ t. inside (mc2b_of alpha t)) (postfilter_held c h) mc2b_held

-- ---- stage 1 or more: all is made by operations

power_held : (a : Float) (s : ℕ) → Inside Holds (of_answer (inverse_power_of a s))
unfolding inverse_power_of
power_held a s =
    let y = 1f ⊘ products a a (s - 1) in
    either (λ (r : Result Float Outside). Inside Holds (of_answer r)) (power_inside a s) (Ok (cond (eq a 1f) 1f y)) (Err (record {}))
    (cond-fits binary64 (eq a 1f) 1f y (of_bits-fits binary64 0x3ff0_0000_0000_0000) (div-fits binary64 1f (products a a (s - 1)))) tt

gnorm_held : (s : ℕ) (c : List Float) → Inside AllHeld (gnorm_of s c)
unfolding gnorm_of
gnorm_held s c =
    let k = 1f ⊕ gamma_of s ⊗ c ‼ 0 in
    then_such AllHeld Holds (of_answer (inverse_power_of k s)) (λ gain. inside (gain ∷ map (λ x. x ⊘ k) (drop 1 c))) (power_held k s)
    (λ gain h. (h, held_map (λ x. x ⊘ k) (λ x. div-fits binary64 x k) (drop 1 c)))

module _ (alpha : Float) (log : Bool) (s : ℕ) where
  coefficients_held : (lsp : List Float) → Inside AllHeld (coefficients_of alpha log s lsp)
  unfolding coefficients_of
  coefficients_held lsp =
      then_any AllHeld (lsp2mgc_of log s lsp) (λ mgc. gnorm_of s (mc2b_of alpha mgc) then λ b. inside (times_from 1 (gamma_of s) b))
      (λ mgc. then_such AllHeld AllHeld (gnorm_of s (mc2b_of alpha mgc)) (λ b. inside (times_from 1 (gamma_of s) b)) (gnorm_held s (mc2b_of alpha mgc))
      (λ b h. held_times 1 (gamma_of s) b (held_take 1 b h)))

  targets_lsp_lem : (beta : Float) (lsp : List Float) → Inside AllHeld (targets_lsp alpha beta log s lsp)
  unfolding targets_lsp
  targets_lsp_lem beta lsp = then_any AllHeld (postfilter_lsp_of beta log s lsp) (λ t. coefficients_of alpha log s (stable_of t)) (λ t. coefficients_held (stable_of t))

-- ---- a frame

pub prepared_held : (c : Configuration) (first : Bool) (now spectrum : List Float) → AllHeld now → AllHeld spectrum → Inside (Both AllHeld) (prepared_for c first now spectrum)
prepared_held c first now spectrum h k =
    let alpha = c.alpha in
    prepared_such AllHeld c first now spectrum h (mc2b_held alpha spectrum k) (targets_mcp_lem alpha c.beta spectrum k)
    (coefficients_held alpha c.log c.stage spectrum) (targets_lsp_lem alpha c.log c.stage c.beta spectrum)
