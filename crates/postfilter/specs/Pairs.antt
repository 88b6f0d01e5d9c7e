-- `postfilter_lsp` of lsp.rs. Assumes nothing.
use Rattle.std.specs.Prelude.{List, Bool, cond, ◌&&◌, ℕ, ◌+◌, ◌-◌, ltb, length, set, Float}
use Rattle.std.specs.Float.Ieee.{ne}
use Rattle.number.specs.F64.{◌⊕◌, ◌⊖◌, ◌⊗◌, ◌⊘◌, ◌‼◌, ½f}
use Rattle.root.specs.Root.{root_of}
use Rattle.elementary.specs.Outcome.{Outcome, inside, ◌then◌, of_answer}
use Rattle.logarithm.specs.Ln.{ln_of}
use Rattle.vectors.specs.Vectors.{grown}
use Rattle.lsp.specs.Lsp.{lsp2en_of}
use Rattle.postfilter.specs.Mel.{acts}

-- an entry between two others: by d1 and d2, beta times the gaps after and before it
unfoldable pub moved_of : (beta before here after : Float) → Float
moved_of beta before here after =
    let d1 = beta ⊗ (after ⊖ here) in
    let d2 = beta ⊗ (here ⊖ before) in
    before ⊕ d2 ⊕ d2 ⊗ d2 ⊗ ((after ⊖ before) ⊖ (d1 ⊕ d2)) ⊘ (d2 ⊗ d2 ⊕ d1 ⊗ d1)

-- entry i of n moves: all but the first two and the last one
abbrev pub moves_of : (i n : ℕ) → Bool
moves_of i n = ltb 1 i && ltb i (n - 1)

unfoldable pub spread_entry : Float → List Float → ℕ → Float
spread_entry beta lsp i = cond (moves_of i (length lsp)) (moved_of beta (lsp ‼ (i - 1)) (lsp ‼ i) (lsp ‼ (i + 1))) (lsp ‼ i)

unfoldable pub spread_of : Float → List Float → List Float
spread_of beta lsp = grown (λ _. spread_entry beta lsp) (length lsp)

-- entry 0 where the energy went from en1 to en2: its logarithm gains half of ln (en1 / en2), and it is multiplied by the root else. NaN
-- counts as different.
unfoldable pub levelled : (logGain : Bool) (en1 en2 x : Float) → Outcome Float
levelled logGain en1 en2 x =
    cond (ne en1 en2)
    (cond logGain (of_answer (ln_of (en1 ⊘ en2)) then λ y. inside (x ⊕ ½f ⊗ y)) (inside (x ⊗ root_of (en1 ⊘ en2))))
    (inside x)

-- where it acts
unfoldable pub filtered_lsp : (beta : Float) (logGain : Bool) (s : ℕ) → List Float → Outcome (List Float)
filtered_lsp beta logGain s lsp =
    lsp2en_of logGain s lsp then λ en1.
    lsp2en_of logGain s (spread_of beta lsp) then λ en2.
    levelled logGain en1 en2 (spread_of beta lsp ‼ 0) then λ x.
    inside (set (spread_of beta lsp) 0 x)

-- THE POSTFILTER of line spectral pairs
unfoldable pub postfilter_lsp_of : (beta : Float) (logGain : Bool) (s : ℕ) → List Float → Outcome (List Float)
postfilter_lsp_of beta logGain s lsp = cond (acts beta (length lsp)) (filtered_lsp beta logGain s lsp) (inside lsp)
