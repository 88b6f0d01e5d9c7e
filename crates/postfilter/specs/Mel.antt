-- `postfilter_mcp` of cepstrum.rs. Assumes nothing.
use Rattle.std.specs.Prelude.{List, Bool, cond, ◌&&◌, ℕ, ltb, length, set, Float}
use Rattle.std.specs.Float.Ieee.{lt}
use Rattle.number.specs.F64.{◌⊕◌, ◌⊖◌, ◌⊗◌, ◌⊘◌, ◌‼◌, 0f, 1f, 2f}
use Rattle.elementary.specs.Outcome.{Outcome, inside, ◌then◌, of_answer}
use Rattle.logarithm.specs.Ln.{ln_of}
use Rattle.vectors.specs.Vectors.{times_from}
use Rattle.cepstrum.specs.Cepstrum.{mc2b_of, b2mc_of, b2en_of}

-- both postfilters act only for beta above 0 and length above 2
abbrev pub acts : Float → ℕ → Bool
acts beta n = lt 0f beta && ltb 2 n

-- the coefficients sharpened: b[1] loses beta * alpha * b[2], and from b[2] on each is multiplied by 1 + beta
unfoldable pub sharpened_of : (alpha beta : Float) → List Float → List Float
sharpened_of alpha beta b = times_from 2 (1f ⊕ beta) (set b 1 (b ‼ 1 ⊖ beta ⊗ alpha ⊗ b ‼ 2))

-- where it acts: b[0] gains ln (e1 / e2) / 2, for the energies before and after
unfoldable pub filtered_mcp : (alpha beta : Float) → List Float → Outcome (List Float)
filtered_mcp alpha beta c =
    let b = mc2b_of alpha c in
    let t = sharpened_of alpha beta b in
    of_answer (ln_of (b2en_of alpha b ⊘ b2en_of alpha t)) then λ y. inside (b2mc_of alpha (set t 0 (t ‼ 0 ⊕ y ⊘ 2f)))

-- THE POSTFILTER of a mel-cepstrum
unfoldable pub postfilter_mcp_of : (alpha beta : Float) → List Float → Outcome (List Float)
postfilter_mcp_of alpha beta c = cond (acts beta (length c)) (filtered_mcp alpha beta c) (inside c)
