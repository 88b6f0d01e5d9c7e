-- `lsp2lpc` of lsp.rs: two chains of sections, whose weights are -2 cos of the entries. Assumes nothing.
use Rattle.std.specs.Prelude.{List, [], ◌∷◌, Bool, cond, ℕ, zero, suc, ◌+◌, ◌%◌, eqb, length, drop, replicate, Float}
use Rattle.number.specs.F64.{◌⊕◌, ◌⊖◌, ◌⊗◌, −◌, ◌‼◌, 0f, ½f, 1f, 2f}
use Rattle.elementary.specs.Outcome.{Outcome, inside, ◌then◌, of_answer}
use Rattle.cosine.specs.Cos.{cos_of}

-- the entries 0, 2, 4, ..
unfoldable pub every_other : List Float → List Float
every_other [] = []
every_other (x ∷ []) = x ∷ []
every_other (x ∷ y ∷ l) = x ∷ every_other l

-- -2 cos of each
unfoldable pub weights_of : List Float → Outcome (List Float)
weights_of [] = inside []
weights_of (x ∷ l) = of_answer (cos_of x) then λ y. weights_of l then λ p. inside (− 2f ⊗ y ∷ p)

-- A section of weight p passes on what goes in, plus p times what went in at the last turn, plus what went in at the turn before it.
abbrev pub section : (a0 p a1 a2 : Float) → Float
section a0 p a1 a2 = a0 ⊕ p ⊗ a1 ⊕ a2

-- where a0 goes into a chain: what goes into each of its sections, and what comes out of the last one
unfoldable pub inputs : Float → (p a1 a2 : List Float) → List Float
inputs a0 [] a1 a2 = []
inputs a0 (p ∷ ps) a1 a2 = a0 ∷ inputs (section a0 p (a1 ‼ 0) (a2 ‼ 0)) ps (drop 1 a1) (drop 1 a2)

unfoldable pub output : Float → (p a1 a2 : List Float) → Float
output a0 [] a1 a2 = a0
output a0 (p ∷ ps) a1 a2 = output (section a0 p (a1 ‼ 0) (a2 ‼ 0)) ps (drop 1 a1) (drop 1 a2)

-- what goes into the chain of p and into that of q: xx now, xf at the last turn, xff at the one before it
abbrev pub a_in : (odd : Bool) (xx xf : Float) → Float
a_in odd xx xf = cond odd xx (xx ⊕ xf)

abbrev pub b_in : (odd : Bool) (xx xf xff : Float) → Float
b_in odd xx xf xff = cond odd (xx ⊖ xff) (xx ⊖ xf)

-- n turns: half of what comes out of both. After the first of them, zeros go in.
unfoldable pub predicted : (odd : Bool) (p q : List Float) (n : ℕ) (xx xf xff : Float) (a1 a2 b1 b2 : List Float) → List Float
predicted odd p q zero xx xf xff a1 a2 b1 b2 = []
predicted odd p q (suc n) xx xf xff a1 a2 b1 b2 =
    let a0 = a_in odd xx xf in
    let b0 = b_in odd xx xf xff in
    − (− ½f ⊗ (output a0 p a1 a2 ⊕ output b0 q b1 b2)) ∷ predicted odd p q n 0f xx xf (inputs a0 p a1 a2) a1 (inputs b0 q b1 b2) b1

-- LINEAR PREDICTION of m pairs, which has m + 1 entries: 1, and what an impulse makes of chains at rest from the second turn on
unfoldable pub lpc_of : (m : ℕ) (p q : List Float) → List Float
lpc_of m p q =
    let a = replicate (length p) 0f in
    let b = replicate (length q) 0f in
    1f ∷ drop 1 (predicted (eqb (m % 2) 1) p q (m + 1) 1f 0f 0f a a b b)

unfoldable pub lsp2lpc_of : List Float → Outcome (List Float)
lsp2lpc_of lsp = weights_of (every_other lsp) then λ p. weights_of (every_other (drop 1 lsp)) then λ q. inside (lpc_of (length lsp) p q)
