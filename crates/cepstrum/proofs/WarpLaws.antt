-- Passes of `freqt` in one sweep are the passes one after the other. Assumes nothing.
use mathlib.Core.Path.{◌≡◌, refl, sym, ◌∙◌, ap}
use mathlib.Core.List.{List, [], ◌∷◌, ◌++◌}
use Prim.Native.Nat.{ℕ, ◌+◌, ◌-◌, ◌≤◌}
use native.Mathlib.Omega.{arith}
use lib.ListN.{length, drop, take-append-drop}
use lib.Seq.{drop-drop}
use lib.Ieee.{Float}
use Rattle.number.specs.F64.{◌⊕◌, ◌⊖◌, ◌⊗◌, 1f}
use Rattle.number.specs.Lists.{row}
use Rattle.wave.specs.Wave.{last_or, outputs, swept, first_after, seconds_of, wave_of}
use Rattle.cepstrum.specs.Cepstrum.{onward, pass, passes}

-- a sweep of no passes changes nothing
swept_none : (a old : Float) (gs : List Float) → swept a old [] gs ≡ gs
unfolding swept outputs
swept_none a old [] = refl
swept_none a old (g ∷ gs) = ap (λ (r : List Float). g ∷ r) (swept_none a g gs)

-- the first pass of a sweep goes on before the others
swept_more : (a old new : Float) (news gs : List Float) → swept a old (new ∷ news) gs ≡ swept a new news (onward a old new gs)
unfolding swept outputs onward
swept_more a old new news [] = refl
swept_more a old new news (g ∷ gs) =
    let next = old ⊕ a ⊗ (g ⊖ new) in
    ap (λ (r : List Float). last_or next (outputs a new next news) ∷ r) (swept_more a g next (outputs a new next news) gs)

-- so the first two entries pass by pass, with a sweep over the rest, are what the passes make
two_and_swept : (a : Float) (xs : List Float) (f s : Float) (gs : List Float) → let made = seconds_of a xs f s in first_after a xs f ∷ last_or s made ∷ swept a s made gs ≡ passes a xs (f ∷ s ∷ gs)
unfolding seconds_of passes pass
two_and_swept a [] f s gs = ap (λ (r : List Float). f ∷ s ∷ r) (swept_none a s gs)
two_and_swept a (x ∷ xs) f s gs =
    let f' = x ⊕ a ⊗ f in
    let s' = (1f ⊖ a ⊗ a) ⊗ f ⊕ a ⊗ s in
    let made = seconds_of a xs f' s' in
    ap (λ (r : List Float). first_after a xs f' ∷ last_or s' made ∷ r) (swept_more a s s' made gs) ∙ two_and_swept a xs f' s' (onward a s s' gs)

pub wave_passes : (a : Float) (xs g : List Float) → 2 ≤ length g → wave_of a xs g ≡ passes a xs g
unfolding wave_of
wave_passes a xs [] h = absurd (omega arith)
wave_passes a xs (f ∷ []) h = absurd (omega arith)
wave_passes a xs (f ∷ s ∷ gs) h = two_and_swept a xs f s gs

-- some passes, and then the others
passes_append : (a : Float) (xs ys g : List Float) → passes a (xs ++ ys) g ≡ passes a ys (passes a xs g)
unfolding passes
passes_append a [] ys g = refl
passes_append a (x ∷ xs) ys g = passes_append a xs ys (pass a x g)

-- the passes of a part of the coefficients, and those that are left
pub passes_row : (a : Float) (c : List Float) (i e : ℕ) (g : List Float) → i ≤ e → passes a (drop e c) (passes a (row i e c) g) ≡ passes a (drop i c) g
passes_row a c i e g h =
    let n : i + (e - i) ≡ e = omega arith in
    let rest : drop e c ≡ drop (e - i) (drop i c) = rw (drop-drop (e - i) i c, n) refl in
    let all : row i e c ++ drop e c ≡ drop i c = rw rest (take-append-drop (e - i) (drop i c)) in
    sym (passes_append a (row i e c) (drop e c) g) ∙ ap (λ (l : List Float). passes a l g) all
