-- The passes of the repair, turn by turn. Assumes nothing.
use mathlib.Core.Path.{◌≡◌, refl}
use mathlib.Core.List.{List}
use mathlib.Core.Bool.{Bool, true, false}
use Prim.Native.Nat.{ℕ, suc, ◌+◌, ◌-◌, ◌≤◌, ◌<◌}
use native.Mathlib.Omega.{arith}
use native.Mathlib.Numerals.{add-one}
use lib.ListN.{set}
use lib.Seq.{get_or-set_other}
use lib.Ieee.{Float, nan, lt}
use Rattle.number.specs.F64.{◌⊕◌, ◌⊖◌, ◌⊗◌, ◌‼◌, ½f}
use Rattle.stability.specs.Stability.{PI, Repair, gap, gaps, low_end, high_end, pass_of, passes_of}

abbrev pub at : List Float → Bool → Repair
at lsp find = record { lsp = lsp; find = find }

module _ (min : Float) (l l' : List Float) (f f' : Bool) where
  -- a gap, by the test on it
  module _ (j : ℕ) where
    pub gap_found : let tmp = l ‼ (j + 1) ⊖ l ‼ j in let one = set l j (l ‼ j ⊖ ½f ⊗ (min ⊖ tmp)) in
        lt tmp min ≡ true → l' ≡ set one (j + 1) (one ‼ (j + 1) ⊕ ½f ⊗ (min ⊖ tmp)) → f' ≡ true → at l' f' ≡ gap min j (at l f)
    unfolding gap
    gap_found t e g =
        let x = l ‼ j ⊖ ½f ⊗ (min ⊖ (l ‼ (j + 1) ⊖ l ‼ j)) in
        let read : set l j x ‼ (j + 1) ≡ l ‼ (j + 1) = get_or-set_other l j (j + 1) x nan (λ q. omega (arith, q)) in
        rw (e, g, t, read) refl

    pub gap_stays : lt (l ‼ (j + 1) ⊖ l ‼ j) min ≡ false → l' ≡ l → f' ≡ f → at l' f' ≡ gap min j (at l f)
    unfolding gap
    gap_stays t e g = rw (e, g, t) refl

  -- the ends
  pub low_found : lt (l ‼ 1) min ≡ true → l' ≡ set l 1 min → f' ≡ true → at l' f' ≡ low_end min (at l f)
  unfolding low_end
  low_found t e g = rw (e, g, t) refl

  pub low_stays : lt (l ‼ 1) min ≡ false → l' ≡ l → f' ≡ f → at l' f' ≡ low_end min (at l f)
  unfolding low_end
  low_stays t e g = rw (e, g, t) refl

  pub high_found : (last : ℕ) → lt (PI ⊖ min) (l ‼ last) ≡ true → l' ≡ set l last (PI ⊖ min) → f' ≡ true → at l' f' ≡ high_end min last (at l f)
  unfolding high_end
  high_found last t e g = rw (e, g, t) refl

  pub high_stays : (last : ℕ) → lt (PI ⊖ min) (l ‼ last) ≡ false → l' ≡ l → f' ≡ f → at l' f' ≡ high_end min last (at l f)
  unfolding high_end
  high_stays last t e g = rw (e, g, t) refl

-- the gaps that are left, one on, and none
pub gaps_turn : (min : Float) (j last : ℕ) (r : Repair) → j < last → gaps min (j + 1) (last - (j + 1)) (gap min j r) ≡ gaps min j (last - j) r
unfolding gaps
gaps_turn min j last r h =
    let e : last - j ≡ suc (last - (j + 1)) = omega arith in
    rw (e, add-one j) refl

pub gaps_done : (min : Float) (j last : ℕ) (r : Repair) → last ≤ j → gaps min j (last - j) r ≡ r
unfolding gaps
gaps_done min j last r h =
    let e : last - j ≡ 0 = omega arith in
    rw e refl

-- a pass, from what its parts make
pub pass_made : (min : Float) (last : ℕ) (l : List Float) (a b c : Repair) → a ≡ gaps min 1 (last - 1) (at l false) → b ≡ low_end min a → c ≡ high_end min last b → c ≡ pass_of min last l
unfolding pass_of
pass_made min last l a b c ea eb ec = rw (ec, eb, ea) refl

-- the passes that are left, where this one found something, and where it did not
module _ (min : Float) (last pass : ℕ) (l l' : List Float) (f : Bool) (h : pass < 4) (e : at l' f ≡ pass_of min last l) where
  pub pass_found : f ≡ true → passes_of min last (4 - (pass + 1)) l' ≡ passes_of min last (4 - pass) l
  unfolding passes_of
  pass_found t =
      let n : 4 - pass ≡ suc (4 - (pass + 1)) = omega arith in
      rw (n, ← e, t) refl

  pub pass_last : f ≡ false → l' ≡ passes_of min last (4 - pass) l
  unfolding passes_of
  pass_last t =
      let n : 4 - pass ≡ suc (4 - (pass + 1)) = omega arith in
      rw (n, ← e, t) refl

pub passes_done : (min : Float) (last pass : ℕ) (l : List Float) → 4 ≤ pass → passes_of min last (4 - pass) l ≡ l
unfolding passes_of
passes_done min last pass l h =
    let n : 4 - pass ≡ 0 = omega arith in
    rw n refl
