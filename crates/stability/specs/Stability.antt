-- `check_lsp_stability` of lsp.rs. Assumes nothing.
use Rattle.std.specs.Prelude.{List, Bool, true, false, cond, ℕ, zero, suc, ◌+◌, ◌-◌, pos, length, set, Float}
use Rattle.std.specs.Float.{binary64}
use Rattle.std.specs.Float.Ieee.{of_bits, of_int, lt}
use Rattle.number.specs.F64.{◌⊕◌, ◌⊖◌, ◌⊗◌, ◌⊘◌, ◌‼◌, ½f}

-- the float nearest to P
abbrev pub PI : Float
PI = of_bits binary64 0x4009_21fb_5444_2d18

abbrev pub ¼f : Float
¼f = of_bits binary64 0x3fd0_0000_0000_0000

-- the least gap: 0.25 * PI / len
unfoldable pub least_gap : ℕ → Float
least_gap len = ¼f ⊗ PI ⊘ of_int binary64 (pos len)

-- the pairs in the course of a pass, and whether it has found something to change
pub record Repair : Type 0 where
  pub lsp : List Float
  pub find : Bool

abbrev pub found : List Float → Repair
found lsp = record { lsp = lsp; find = true }

-- the gap between j and j + 1: where it is below the least one, both move by half of what is missing
abbrev pub widened : (min : Float) (j : ℕ) → List Float → List Float
widened min j l =
    let tmp = l ‼ (j + 1) ⊖ l ‼ j in
    set (set l j (l ‼ j ⊖ ½f ⊗ (min ⊖ tmp))) (j + 1) (l ‼ (j + 1) ⊕ ½f ⊗ (min ⊖ tmp))

unfoldable pub gap : (min : Float) (j : ℕ) → Repair → Repair
gap min j r = let l = r.lsp in cond (lt (l ‼ (j + 1) ⊖ l ‼ j) min) (found (widened min j l)) r

-- n gaps, from j on
unfoldable pub gaps : (min : Float) (j n : ℕ) → Repair → Repair
gaps min j zero r = r
gaps min j (suc n) r = gaps min (suc j) n (gap min j r)

-- entry 1 is not below the least gap, and then the last one not above PI less it
unfoldable pub low_end : (min : Float) → Repair → Repair
low_end min r = cond (lt (r.lsp ‼ 1) min) (found (set r.lsp 1 min)) r

unfoldable pub high_end : (min : Float) (last : ℕ) → Repair → Repair
high_end min last r = cond (lt (PI ⊖ min) (r.lsp ‼ last)) (found (set r.lsp last (PI ⊖ min))) r

-- A PASS: the gaps from index 1 on, then both ends
unfoldable pub pass_of : (min : Float) (last : ℕ) → List Float → Repair
pass_of min last l = high_end min last (low_end min (gaps min 1 (last - 1) (record { lsp = l; find = false })))

-- at most n passes, left where one finds nothing
abbrev pub goes_on : Repair → (List Float → List Float) → List Float
goes_on r next = cond r.find (next r.lsp) r.lsp

unfoldable pub passes_of : (min : Float) (last n : ℕ) → List Float → List Float
passes_of min last zero l = l
passes_of min last (suc n) l = goes_on (pass_of min last l) (passes_of min last n)

-- THE STABLE PAIRS: at most four passes
unfoldable pub stable_of : List Float → List Float
stable_of l = passes_of (least_gap (length l)) (length l - 1) 4 l
