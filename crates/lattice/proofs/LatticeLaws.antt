-- The weights and the chains, turn by turn. Assumes nothing.
use mathlib.Core.Path.{◌≡◌, refl, sym, ◌∙◌, ap}
use mathlib.Core.List.{List, [], ◌∷◌, ◌++◌, append-nil}
use mathlib.Core.Bool.{Bool}
use Prim.Native.Nat.{ℕ, zero, suc, ◌+◌, ◌-◌, ◌*◌, ◌/◌, ◌%◌, ◌≤◌, ◌<◌}
use native.Mathlib.Nat.{le_refl}
use native.Mathlib.Omega.{arith}
use native.Mathlib.Numerals.{add-one}
use lib.Dec.{eqb}
use lib.Ieee.{Float, nan}
use lib.ListN.{length, take, drop, set, replicate, length-drop, length-replicate}
use lib.Seq.{take_all, take-suc-set, drop-set-lt, drop-drop, get_or-drop, append_snoc}
use Rattle.number.specs.F64.{◌⊕◌, ◌⊗◌, −◌, ◌‼◌, 0f, ½f, 1f, 2f}
use Rattle.number.specs.Lists.{over, row}
use Rattle.number.proofs.Lists.{left_next, left_none, front_turn, front_end, over_known}
use Rattle.std.specs.Prelude.{Result, Ok, Err}
use Rattle.elementary.specs.declared.answer.Outside.{Outside}
use Rattle.elementary.specs.Outcome.{Outcome, outside, inside, ◌then◌, of_answer}
use Rattle.cosine.specs.Cos.{cos_of}
use Rattle.cosine.specs.Both.{both_of}
use Rattle.lattice.specs.Lattice.{every_other, weights_of, section, inputs, output, a_in, b_in, predicted, lpc_of, lsp2lpc_of}

-- ---- every other entry

pub length_every_other : (l : List Float) → length (every_other l) ≡ (length l + 1) / 2
unfolding every_other
length_every_other [] = refl
length_every_other (x ∷ []) = refl
length_every_other (x ∷ y ∷ l) = omega (arith, length_every_other l)

every_other_at : (l : List Float) (i : ℕ) → 2 * i < length l → every_other l ‼ i ≡ l ‼ (2 * i)
unfolding every_other
every_other_at [] i h = absurd (omega arith)
every_other_at (x ∷ []) zero h = refl
every_other_at (x ∷ []) (suc i) h = absurd (omega arith)
every_other_at (x ∷ y ∷ l) zero h = refl
every_other_at (x ∷ y ∷ l) (suc i) h =
    let e : 2 * suc i ≡ suc (suc (2 * i)) = omega arith in
    rw e (every_other_at l i (omega arith))

-- those of the list without its first are the entries 1, 3, 5, ..
odd_at : (l : List Float) (i : ℕ) → 2 * i + 1 < length l → every_other (drop 1 l) ‼ i ≡ l ‼ (2 * i + 1)
odd_at l i h =
    let e : 1 + 2 * i ≡ 2 * i + 1 = omega arith in
    rw (← e) (every_other_at (drop 1 l) i (simp length-drop (omega arith)) ∙ get_or-drop 1 l (2 * i) nan)

-- ---- the weights, of entries l: those that are left decide

abbrev pub Weighed : List Float → List Float → ℕ → Type 0
Weighed l p i = weights_of l ≡ (weights_of (drop i l) then λ ps. inside (take i p ++ ps))

module _ (l p : List Float) (i : ℕ) (long : i < length l) (w : Weighed l p i) where
  next : (r : Result Float Outside) → cos_of (l ‼ i) ≡ r → weights_of (drop i l) ≡ (of_answer r then λ y. weights_of (drop (i + 1) l) then λ ps. inside (− 2f ⊗ y ∷ ps))
  unfolding weights_of
  next r e = rw (left_next l i nan long, e) refl

  weighed_outside : cos_of (l ‼ i) ≡ Err (record {}) → weights_of l ≡ outside
  weighed_outside o = w ∙ rw (next (Err (record {})) o) refl

  weighed_more : (y : Float) → cos_of (l ‼ i) ≡ Ok y → i < length p → Weighed l (set p i (− 2f ⊗ y)) (i + 1)
  weighed_more y o h = w ∙ rw (next (Ok y) o) (go (weights_of (drop (i + 1) l)))
    where
      go : (d : Outcome (List Float)) → (d then (λ ps. inside (− 2f ⊗ y ∷ ps)) then λ ps. inside (take i p ++ ps)) ≡ (d then λ ps. inside (take (i + 1) (set p i (− 2f ⊗ y)) ++ ps))
      go outside = refl
      go (inside ps) = ap inside (sym (rw (add-one i, take-suc-set p i (− 2f ⊗ y) h) (append_snoc (take i p) (− 2f ⊗ y) ps)))

pub weighed_all : (l p : List Float) (i : ℕ) → length l ≤ i → length p ≤ i → Weighed l p i → weights_of l ≡ inside p
unfolding weights_of
weighed_all l p i h g w = w ∙ rw (left_none l i h) (ap inside (rw (take_all i p g) (append-nil p)))

-- ---- where one of the lists of weights is outside, linear prediction is

module _ (lsp : List Float) where
  outside_even : weights_of (every_other lsp) ≡ outside → lsp2lpc_of lsp ≡ outside
  unfolding lsp2lpc_of
  outside_even o = rw o refl

  outside_odd : weights_of (every_other (drop 1 lsp)) ≡ outside → lsp2lpc_of lsp ≡ outside
  unfolding lsp2lpc_of
  outside_odd o = rw o (go (weights_of (every_other lsp)))
    where
      go : (d : Outcome (List Float)) → (d then λ p. outside then λ q. inside (lpc_of (length lsp) p q)) ≡ outside
      go outside = refl
      go (inside p) = refl

-- ---- a turn: one entry for each list

module _ (lsp p : List Float) (i : ℕ) (w : Weighed (every_other lsp) p i) where
  -- the last of the entries, where p has one more
  module _ (here : 2 * i < length lsp) where
    even : i < length (every_other lsp)
    even = simp length_every_other (omega arith)

    pub last_outside : Err (record {}) ≡ cos_of (lsp ‼ (2 * i)) → lsp2lpc_of lsp ≡ outside
    last_outside e = outside_even lsp (weighed_outside (every_other lsp) p i even w (rw (every_other_at lsp i here) (sym e)))

    pub last_more : (y : Float) → Ok y ≡ cos_of (lsp ‼ (2 * i)) → i < length p → Weighed (every_other lsp) (set p i (− 2f ⊗ y)) (i + 1)
    last_more y e h = weighed_more (every_other lsp) p i even w y (rw (every_other_at lsp i here) (sym e)) h

  module _ (q : List Float) (v : Weighed (every_other (drop 1 lsp)) q i) (here : 2 * i + 1 < length lsp) where
    odd : i < length (every_other (drop 1 lsp))
    odd = simp (length_every_other, length-drop) (omega arith)

    pub turn_outside : Err (record {}) ≡ both_of (cos_of (lsp ‼ (2 * i))) (cos_of (lsp ‼ (2 * i + 1))) → lsp2lpc_of lsp ≡ outside
    turn_outside e = go (cos_of (lsp ‼ (2 * i))) (cos_of (lsp ‼ (2 * i + 1))) refl refl (sym e)
      where
        go : (a b : Result Float Outside) → cos_of (lsp ‼ (2 * i)) ≡ a → cos_of (lsp ‼ (2 * i + 1)) ≡ b → both_of a b ≡ Err (record {}) → lsp2lpc_of lsp ≡ outside
        go (Err o) b f g h = last_outside (omega arith) (sym f)
        go (Ok y) (Err o) f g h = outside_odd lsp (weighed_outside (every_other (drop 1 lsp)) q i odd v (rw (odd_at lsp i here) g))
        go (Ok y) (Ok z) f g h = let x : ◌≡◌ {A = ℕ} 0 1 = cc in absurd (omega arith)

    pub turn_more : (y z : Float) → Ok (y, z) ≡ both_of (cos_of (lsp ‼ (2 * i))) (cos_of (lsp ‼ (2 * i + 1))) → i < length p → i < length q
        → Weighed (every_other lsp) (set p i (− 2f ⊗ y)) (i + 1) × Weighed (every_other (drop 1 lsp)) (set q i (− 2f ⊗ z)) (i + 1)
    turn_more y z e hp hq = go (cos_of (lsp ‼ (2 * i))) (cos_of (lsp ‼ (2 * i + 1))) refl refl (sym e)
      where
        go : (a b : Result Float Outside) → cos_of (lsp ‼ (2 * i)) ≡ a → cos_of (lsp ‼ (2 * i + 1)) ≡ b → both_of a b ≡ Ok (y, z)
            → Weighed (every_other lsp) (set p i (− 2f ⊗ y)) (i + 1) × Weighed (every_other (drop 1 lsp)) (set q i (− 2f ⊗ z)) (i + 1)
        go (Err o) b f g h = let x : ◌≡◌ {A = ℕ} 0 1 = cc in absurd (omega arith)
        go (Ok y') (Err o) f g h = let x : ◌≡◌ {A = ℕ} 0 1 = cc in absurd (omega arith)
        go (Ok y') (Ok z') f g h =
            let pair : (y', z') ≡ (y, z) = cc in
            let y'' : cos_of (lsp ‼ (2 * i)) ≡ Ok y = f ∙ ap (λ (x : Float × Float). Ok x.0) pair in
            let z'' : cos_of (lsp ‼ (2 * i + 1)) ≡ Ok z = g ∙ ap (λ (x : Float × Float). Ok x.1) pair in
            (last_more (omega arith) y (sym y'') hp, weighed_more (every_other (drop 1 lsp)) q i odd v z (rw (odd_at lsp i here) z'') hq)

-- ---- a chain

module _ (a0 : Float) (p a1 a2 : List Float) (i : ℕ) (hp : i < length p) (h1 : i < length a1) (h2 : i < length a2) where
  pub inputs_turn : let next = section a0 (p ‼ i) (a1 ‼ i) (a2 ‼ i) in
      take (i + 1) (set a1 i a0) ++ inputs next (drop (i + 1) p) (drop (i + 1) (set a1 i a0)) (drop (i + 1) (set a2 i (a1 ‼ i))) ≡ take i a1 ++ inputs a0 (drop i p) (drop i a1) (drop i a2)
  unfolding inputs
  inputs_turn =
      let next = section a0 (p ‼ i) (a1 ‼ i) (a2 ‼ i) in
      let same : drop (i + 1) (set a2 i (a1 ‼ i)) ≡ drop (i + 1) a2 = rw (add-one i) (drop-set-lt (suc i) a2 i (a1 ‼ i) (le_refl (suc i))) in
      rw same (front_turn (λ (l : List Float). inputs a0 (drop i p) l (drop i a2)) (λ (l : List Float). inputs next (drop (i + 1) p) l (drop (i + 1) a2)) a1 i a0 nan h1 (rw (left_next p i nan hp, left_next a2 i nan h2) refl))

  pub output_turn : let next = section a0 (p ‼ i) (a1 ‼ i) (a2 ‼ i) in
      output next (drop (i + 1) p) (drop (i + 1) (set a1 i a0)) (drop (i + 1) (set a2 i (a1 ‼ i))) ≡ output a0 (drop i p) (drop i a1) (drop i a2)
  unfolding output
  output_turn =
      let same : drop (i + 1) (set a2 i (a1 ‼ i)) ≡ drop (i + 1) a2 = rw (add-one i) (drop-set-lt (suc i) a2 i (a1 ‼ i) (le_refl (suc i))) in
      let same1 : drop (i + 1) (set a1 i a0) ≡ drop (i + 1) a1 = rw (add-one i) (drop-set-lt (suc i) a1 i a0 (le_refl (suc i))) in
      rw (same, same1, left_next p i nan hp, left_next a1 i nan h1, left_next a2 i nan h2) refl

pub inputs_done : (a0 : Float) (p a1 a2 : List Float) (i : ℕ) → length p ≤ i → length a1 ≤ i → take i a1 ++ inputs a0 (drop i p) (drop i a1) (drop i a2) ≡ a1
unfolding inputs
inputs_done a0 p a1 a2 i hp h1 = front_end a1 (inputs a0 (drop i p) (drop i a1) (drop i a2)) i h1 (rw (left_none p i hp) refl)

pub output_done : (a0 : Float) (p a1 a2 : List Float) (i : ℕ) → length p ≤ i → output a0 (drop i p) (drop i a1) (drop i a2) ≡ a0
unfolding output
output_done a0 p a1 a2 i hp = rw (left_none p i hp) refl

-- what went in at the last turn becomes what went in before it
pub shifted_turn : (a0 : Float) (a1 a1₀ a2 a2₀ : List Float) (i : ℕ) → i < length a1₀ → i < length a2₀ → drop i a1 ≡ drop i a1₀ → a2 ≡ over (take i a1₀) i a2₀
    → (set a2 i (a1 ‼ i) ≡ over (take (i + 1) a1₀) (i + 1) a2₀) × (drop (i + 1) (set a1 i a0) ≡ drop (i + 1) a1₀)
shifted_turn a0 a1 a1₀ a2 a2₀ i h g e f =
    let read : a1 ‼ i ≡ a1₀ ‼ i = here a1 ∙ ap (λ (l : List Float). l ‼ 0) e ∙ sym (here a1₀) in
    let same : drop (i + 1) (set a1 i a0) ≡ drop (i + 1) a1 = rw (add-one i) (drop-set-lt (suc i) a1 i a0 (le_refl (suc i))) in
    (rw (read, f) (over_known a1₀ a2₀ i nan h g), same ∙ sym (drop-drop 1 i a1) ∙ ap (drop 1) e ∙ drop-drop 1 i a1₀)
  where
    here : (l : List Float) → l ‼ i ≡ drop i l ‼ 0
    here l =
        let z : i + 0 ≡ i = omega arith in
        rw z at (sym (get_or-drop i l 0 nan))

-- ---- the turns of both chains

module _ (odd : Bool) (p q : List Float) (xx xf xff : Float) (a1 a2 b1 b2 : List Float) (lpc : List Float) (n k : ℕ) where
  -- one turn: a0 and b0 go into the chains, a and b come out
  pub predict_turn : (a0 b0 a b : Float) (a1' a2' b1' b2' : List Float) → k < n → k < length lpc
      → a0 ≡ a_in odd xx xf → a ≡ output a0 p a1 a2 → a1' ≡ inputs a0 p a1 a2 → a2' ≡ a1
      → b0 ≡ b_in odd xx xf xff → b ≡ output b0 q b1 b2 → b1' ≡ inputs b0 q b1 b2 → b2' ≡ b1
      → take (k + 1) (set lpc k (− (− ½f ⊗ (a ⊕ b)))) ++ predicted odd p q (n - (k + 1)) 0f xx xf a1' a2' b1' b2'
      ≡ take k lpc ++ predicted odd p q (n - k) xx xf xff a1 a2 b1 b2
  unfolding predicted
  predict_turn a0 b0 a b a1' a2' b1' b2' h g ea0 ea ea1 ea2 eb0 eb eb1 eb2 =
      let m : n - k ≡ suc (n - (k + 1)) = omega arith in
      rw (ea, ea1, ea2, eb, eb1, eb2, ea0, eb0, m, add-one k, take-suc-set lpc k _ g) (append_snoc (take k lpc) _ _)

  pub predict_done : n ≤ k → length lpc ≤ k → take k lpc ++ predicted odd p q (n - k) xx xf xff a1 a2 b1 b2 ≡ lpc
  unfolding predicted
  predict_done h g =
      let m : n - k ≡ 0 = omega arith in
      rw (m, take_all k lpc g) (append-nil lpc)

length_predicted : (odd : Bool) (p q : List Float) (n : ℕ) (xx xf xff : Float) (a1 a2 b1 b2 : List Float) → length (predicted odd p q n xx xf xff a1 a2 b1 b2) ≡ n
unfolding predicted
length_predicted o p q zero xx xf xff a1 a2 b1 b2 = refl
length_predicted o p q (suc n) xx xf xff a1 a2 b1 b2 = ap suc (length_predicted o p q n 0f xx xf (inputs (a_in o xx xf) p a1 a2) a1 (inputs (b_in o xx xf xff) q b1 b2) b1)

-- ---- linear prediction as a whole

first_set : (l : List Float) (y : Float) → 1 ≤ length l → set l 0 y ≡ y ∷ drop 1 l
first_set [] y h = absurd (omega arith)
first_set (x ∷ l) y h = refl

pub lpc_made : (m n : ℕ) (p q a1 a2 b1 b2 lpc : List Float) → n ≡ m + 1
    → a1 ≡ replicate (length p) 0f → a2 ≡ replicate (length p) 0f → b1 ≡ replicate (length q) 0f → b2 ≡ replicate (length q) 0f
    → lpc ≡ predicted (eqb (m % 2) 1) p q n 1f 0f 0f a1 a2 b1 b2 → set lpc 0 1f ≡ lpc_of m p q
unfolding lpc_of
lpc_made m n p q a1 a2 b1 b2 lpc en e1 e2 f1 f2 e =
    let a = replicate (length p) 0f in
    let b = replicate (length q) 0f in
    let l = length_predicted (eqb (m % 2) 1) p q (m + 1) 1f 0f 0f a a b b in
    rw (e, en, e1, e2, f1, f2) (first_set (predicted (eqb (m % 2) 1) p q (m + 1) 1f 0f 0f a a b b) 1f (omega (arith, l)))

pub lpc_inside : (lsp p q : List Float) → weights_of (every_other lsp) ≡ inside p → weights_of (every_other (drop 1 lsp)) ≡ inside q → lsp2lpc_of lsp ≡ inside (lpc_of (length lsp) p q)
unfolding lsp2lpc_of
lpc_inside lsp p q i j = rw (i, j) refl

-- the front of an array of zeros
zeros : (n m : ℕ) → n ≤ m → take n (replicate m 0f) ≡ replicate n 0f
zeros zero m h = refl
zeros (suc n) zero h = absurd (omega arith)
zeros (suc n) (suc m) h = ap (λ (l : List Float). 0f ∷ l) (zeros n m (omega arith))

pub front_zeros : (n m : ℕ) → n ≤ m → row 0 n (replicate m 0f) ≡ replicate n 0f
front_zeros n m h =
    let e : n - 0 ≡ n = omega arith in
    rw e (zeros n m h)

pub length_front : (n m : ℕ) → n ≤ m → length (row 0 n (replicate m 0f)) ≡ n
length_front n m h = ap length (front_zeros n m h) ∙ length-replicate n 0f
