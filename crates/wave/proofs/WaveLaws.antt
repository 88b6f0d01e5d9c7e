-- How a sweep goes on by one entry and by two, how it ends, and how it begins. Assumes nothing.
use mathlib.Core.Path.{◌≡◌, refl, ◌∙◌}
use mathlib.Core.List.{List, [], ◌∷◌, ◌++◌}
use Prim.Native.Nat.{ℕ, ◌+◌, ◌<◌, ◌≤◌}
use native.Mathlib.Omega.{arith}
use lib.ListN.{length, take, drop, set, length-set}
use lib.Seq.{get_or-set_other}
use lib.Ieee.{Float, nan}
use Rattle.number.specs.F64.{◌‼◌}
use Rattle.number.proofs.Lists.{front_turn, front_end, left_none}
use Rattle.wave.specs.Wave.{last_or, outputs, swept, first_after, seconds_of, wave_of}

-- what is done below j, with what the wave makes of the rest
abbrev pub swept_from : Float → (old : Float) (news : List Float) (j : ℕ) → List Float → List Float
swept_from a old news j g = take j g ++ swept a old news (drop j g)

-- the entry v becomes what the last pass makes of it, and the wave goes on
swept_turn : (a old v x : Float) (news next gs : List Float) → x ≡ v → next ≡ outputs a old v news → swept a old news (v ∷ gs) ≡ last_or v next ∷ swept a x next gs
unfolding swept
swept_turn a old v x news next gs ex en = rw (ex, en) refl

-- the store of one entry is a turn
pub one_stored : (a old x y : Float) (news next g : List Float) (j : ℕ) → j < length g → x ≡ g ‼ j → y ≡ last_or (g ‼ j) next → next ≡ outputs a old (g ‼ j) news
    → swept_from a x next (j + 1) (set g j y) ≡ swept_from a old news j g
one_stored a old x y news next g j h ex ey en =
    front_turn (swept a old news) (swept a x next) g j y nan h (swept_turn a old (g ‼ j) x news next (drop (j + 1) g) ex en ∙ rw ey refl)

-- and so is that of two
pub two_stored : (a old x y z : Float) (news next g : List Float) (j : ℕ) → j + 1 < length g
    → let made = outputs a old (g ‼ j) news in
    y ≡ last_or (g ‼ j) made → x ≡ g ‼ (j + 1) → z ≡ last_or (g ‼ (j + 1)) next → next ≡ outputs a (g ‼ j) (g ‼ (j + 1)) made
    → swept_from a x next (j + 2) (set (set g j y) (j + 1) z) ≡ swept_from a old news j g
two_stored a old x y z news next g j h ey ex ez en =
    let made = outputs a old (g ‼ j) news in
    let here : set g j y ‼ (j + 1) ≡ g ‼ (j + 1) = get_or-set_other g j (j + 1) y nan (λ e. omega arith) in
    let n : j + 1 + 1 ≡ j + 2 = omega arith in
    rw n at (one_stored a (g ‼ j) x z made next (set g j y) (j + 1) (simp length-set (omega arith)) (rw here ex) (rw here ez) (rw here en))
    ∙ one_stored a old (g ‼ j) y news made g j (omega arith) refl ey refl

-- at the end all is done
pub swept_end : (a old : Float) (news g : List Float) (j : ℕ) → length g ≤ j → swept_from a old news j g ≡ g
unfolding swept
swept_end a old news g j h = front_end g _ j h (rw (left_none g j h) refl)

-- two stores in front leave the rest
pub two_stores : (g : List Float) (x y : Float) (f : List Float → List Float) → 2 ≤ length g → take 2 (set (set g 0 x) 1 y) ++ f (drop 2 (set (set g 0 x) 1 y)) ≡ x ∷ y ∷ f (drop 2 g)
two_stores [] x y f h = absurd (omega arith)
two_stores (g ∷ []) x y f h = absurd (omega arith)
two_stores (g ∷ g' ∷ gs) x y f h = refl

-- the first two entries stored, and the rest swept
pub wave_stored : (a first input : Float) (made xs g : List Float) → 2 ≤ length g → first ≡ first_after a xs (g ‼ 0) → input ≡ g ‼ 1 → made ≡ seconds_of a xs (g ‼ 0) (g ‼ 1)
    → let two = set (set g 0 first) 1 (last_or (g ‼ 1) made) in take 2 two ++ swept a input made (drop 2 two) ≡ wave_of a xs g
unfolding wave_of
wave_stored a first input made xs g h ef ei em = two_stores g first (last_or (g ‼ 1) made) (swept a input made) h ∙ rw (ef, ei, em) refl

-- a list of eight is its eight elements
abbrev pub eight_of : List Float → List Float
eight_of x = x ‼ 0 ∷ x ‼ 1 ∷ x ‼ 2 ∷ x ‼ 3 ∷ x ‼ 4 ∷ x ‼ 5 ∷ x ‼ 6 ∷ x ‼ 7 ∷ []

pub eight_elements : (x : List Float) → length x ≡ 8 → eight_of x ≡ x
eight_elements (a ∷ b ∷ c ∷ d ∷ e ∷ f ∷ g ∷ h ∷ []) n = refl
eight_elements [] n = absurd (omega arith)
eight_elements (a ∷ []) n = absurd (omega arith)
eight_elements (a ∷ b ∷ []) n = absurd (omega arith)
eight_elements (a ∷ b ∷ c ∷ []) n = absurd (omega arith)
eight_elements (a ∷ b ∷ c ∷ d ∷ []) n = absurd (omega arith)
eight_elements (a ∷ b ∷ c ∷ d ∷ e ∷ []) n = absurd (omega arith)
eight_elements (a ∷ b ∷ c ∷ d ∷ e ∷ f ∷ []) n = absurd (omega arith)
eight_elements (a ∷ b ∷ c ∷ d ∷ e ∷ f ∷ g ∷ []) n = absurd (omega arith)
eight_elements (a ∷ b ∷ c ∷ d ∷ e ∷ f ∷ g ∷ h ∷ i ∷ l) n = absurd (omega arith)
