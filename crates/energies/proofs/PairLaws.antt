-- Two lists in one: what is read of each, what a store in one does, and the sums of both. Assumes nothing.
use mathlib.Core.Path.{◌≡◌, refl, sym, ap, ◌∙◌}
use mathlib.Core.List.{List, [], ◌∷◌}
use Prim.Native.Nat.{ℕ, zero, suc, ◌+◌, ◌-◌, ◌*◌, ◌≤◌, ◌<◌}
use native.Mathlib.Nat.{zero-add}
use native.Mathlib.Omega.{arith}
use lib.Ieee.{Float, nan}
use lib.ListN.{length, get_or, take, set, replicate}
use lib.Seq.{take_all}
use Rattle.number.specs.F64.{◌⊕◌, ◌⊗◌, ◌‼◌, 0f}
use Rattle.number.specs.Lists.{over}
use Rattle.number.proofs.Lists.{over_known, over_end}
use Rattle.vectors.specs.Vectors.{sum_from}
use Rattle.vectors.proofs.VectorLaws.{sum_turn}
use Rattle.cepstrum.specs.Weights.{weighed_term}
use Rattle.lost.specs.Lost.{UpTo}
use Rattle.energies.specs.Pairs.{evens, odds}
use Rattle.energies.specs.Sizes.{Tops, Highest}

module _ {ℓ} {A : Type ℓ} where
  -- entry i of each
  even_at : (l : List A) (i j : ℕ) (z : A) → j ≡ 2 * i → get_or l j z ≡ get_or (evens l) i z
  unfolding evens
  even_at [] i j z e = refl
  even_at (x ∷ []) zero zero z e = refl
  even_at (x ∷ []) zero (suc j) z e = absurd (omega arith)
  even_at (x ∷ []) (suc i) zero z e = absurd (omega arith)
  even_at (x ∷ []) (suc i) (suc j) z e = refl
  even_at (x ∷ y ∷ l) zero zero z e = refl
  even_at (x ∷ y ∷ l) zero (suc j) z e = absurd (omega arith)
  even_at (x ∷ y ∷ l) (suc i) zero z e = absurd (omega arith)
  even_at (x ∷ y ∷ l) (suc i) (suc zero) z e = absurd (omega arith)
  even_at (x ∷ y ∷ l) (suc i) (suc (suc j)) z e = even_at l i j z (omega arith)

  odd_at : (l : List A) (i j : ℕ) (z : A) → j ≡ 2 * i + 1 → get_or l j z ≡ get_or (odds l) i z
  unfolding odds
  odd_at [] i j z e = refl
  odd_at (x ∷ l) i zero z e = absurd (omega arith)
  odd_at (x ∷ l) i (suc j) z e = even_at l i j z (omega arith)

  -- a store at an even place, and one at an odd place, in the entries at even places
  even_set : (l : List A) (i j : ℕ) (v : A) → j ≡ 2 * i → evens (set l j v) ≡ set (evens l) i v
  unfolding evens
  even_set [] i j v e = refl
  even_set (x ∷ []) zero zero v e = refl
  even_set (x ∷ []) zero (suc j) v e = absurd (omega arith)
  even_set (x ∷ []) (suc i) zero v e = absurd (omega arith)
  even_set (x ∷ []) (suc i) (suc j) v e = refl
  even_set (x ∷ y ∷ l) zero zero v e = refl
  even_set (x ∷ y ∷ l) zero (suc j) v e = absurd (omega arith)
  even_set (x ∷ y ∷ l) (suc i) zero v e = absurd (omega arith)
  even_set (x ∷ y ∷ l) (suc i) (suc zero) v e = absurd (omega arith)
  even_set (x ∷ y ∷ l) (suc i) (suc (suc j)) v e = ap (λ (r : List A). x ∷ r) (even_set l i j v (omega arith))

  even_kept : (l : List A) (i j : ℕ) (v : A) → j ≡ 2 * i + 1 → evens (set l j v) ≡ evens l
  unfolding evens
  even_kept [] i j v e = refl
  even_kept (x ∷ l) i zero v e = absurd (omega arith)
  even_kept (x ∷ []) i (suc j) v e = refl
  even_kept (x ∷ y ∷ l) i (suc zero) v e = refl
  even_kept (x ∷ y ∷ l) zero (suc (suc j)) v e = absurd (omega arith)
  even_kept (x ∷ y ∷ l) (suc i) (suc (suc j)) v e = ap (λ (r : List A). x ∷ r) (even_kept l i j v (omega arith))

  -- the same two in the entries at odd places
  odd_set : (l : List A) (i j : ℕ) (v : A) → j ≡ 2 * i + 1 → odds (set l j v) ≡ set (odds l) i v
  unfolding odds
  odd_set [] i j v e = refl
  odd_set (x ∷ l) i zero v e = absurd (omega arith)
  odd_set (x ∷ l) i (suc j) v e = even_set l i j v (omega arith)

  odd_kept : (l : List A) (i j : ℕ) (v : A) → j ≡ 2 * i → odds (set l j v) ≡ odds l
  unfolding odds
  odd_kept [] i j v e = refl
  odd_kept (x ∷ l) i zero v e = refl
  odd_kept (x ∷ l) zero (suc j) v e = absurd (omega arith)
  odd_kept (x ∷ l) (suc i) (suc j) v e = even_kept l i j v (omega arith)

  -- the list `both` is the two others
  abbrev pub Paired : (both one other : List A) → Type ℓ
  Paired both one other = (evens both ≡ one) × (odds both ≡ other)

  -- a store in each of the two
  pub paired_set : (both one other : List A) (i : ℕ) (v w : A) → Paired both one other → Paired (set (set both (2 * i) v) (2 * i + 1) w) (set one i v) (set other i w)
  paired_set both one other i v w p =
      let first = even_kept (set both (2 * i) v) i (2 * i + 1) w refl ∙ even_set both i (2 * i) v refl in
      let second = odd_set (set both (2 * i) v) i (2 * i + 1) w refl ∙ ap (λ (l : List A). set l i w) (odd_kept both i (2 * i) v refl) in
      (first ∙ ap (λ (l : List A). set l i v) p.0, second ∙ ap (λ (l : List A). set l i w) p.1)

  -- the first i entries of each, over the buffer d: one more
  pub paired_more : (both one other d : List A) (i : ℕ) (z : A) → i < length one → i < length other → i < length d
      → Paired both (over (take i one) i d) (over (take i other) i d)
      → Paired (set (set both (2 * i) (get_or one i z)) (2 * i + 1) (get_or other i z)) (over (take (i + 1) one) (i + 1) d) (over (take (i + 1) other) (i + 1) d)
  paired_more both one other d i z h k m p =
      let set_both = paired_set both (over (take i one) i d) (over (take i other) i d) i (get_or one i z) (get_or other i z) p in
      (set_both.0 ∙ over_known one d i z h m, set_both.1 ∙ over_known other d i z k m)

-- all are zeros at first; and a list of 576 is copied when all of its entries are
pub paired_zeros : Paired (replicate 1152 0f) (replicate 576 0f) (replicate 576 0f)
unfolding evens odds
paired_zeros = (refl, refl)

pub all_taken : (l : List Float) (i : ℕ) → i ≡ 576 → length l ≡ 576 → over (take i l) i (replicate 576 0f) ≡ l
all_taken l i e h = over_end (take i l) (replicate 576 0f) i (omega arith) ∙ take_all i l (omega arith)

-- ---- the sums of both

-- two more terms of the sum for entry n, of those from k to below m
two_terms : (a b : List Float) (n k m : ℕ) (d : Float) → k + 1 < m
    → sum_from (weighed_term a b n) (k + 2) (m - (k + 2)) (d ⊕ a ‼ k ⊗ b ‼ (n - k) ⊕ a ‼ (k + 1) ⊗ b ‼ (n - (k + 1))) ≡ sum_from (weighed_term a b n) k (m - k) d
two_terms a b n k m d h =
    let two : k + 1 + 1 ≡ k + 2 = omega arith in
    let second = sum_turn (weighed_term a b n) (k + 1) m (d ⊕ a ‼ k ⊗ b ‼ (n - k)) (omega arith) in
    rw (← two) (second ∙ sum_turn (weighed_term a b n) k m d (omega arith))

-- the last one
last_term : (a b : List Float) (n k m : ℕ) (d : Float) → k + 1 ≡ m → d ⊕ a ‼ k ⊗ b ‼ (n - k) ≡ sum_from (weighed_term a b n) k (m - k) d
unfolding sum_from
last_term a b n k m d h =
    let one : m - k ≡ 1 = omega arith in
    rw one refl

-- the same, read in w and r at i and j, and then at i' and j'
module _ (w r : List Float) (n k m : ℕ) (d : Float) (i j i' j' : ℕ) where
  pub even_turn : k + 1 < m → i ≡ 2 * k → j ≡ 2 * (n - k) → i' ≡ 2 * (k + 1) → j' ≡ 2 * (n - (k + 1))
      → sum_from (weighed_term (evens w) (evens r) n) (k + 2) (m - (k + 2)) (d ⊕ w ‼ i ⊗ r ‼ j ⊕ w ‼ i' ⊗ r ‼ j') ≡ sum_from (weighed_term (evens w) (evens r) n) k (m - k) d
  even_turn h a b a' b' =
      rw (even_at w k i nan a, even_at r (n - k) j nan b, even_at w (k + 1) i' nan a', even_at r (n - (k + 1)) j' nan b') (two_terms (evens w) (evens r) n k m d h)

  pub odd_turn : k + 1 < m → i ≡ 2 * k + 1 → j ≡ 2 * (n - k) + 1 → i' ≡ 2 * (k + 1) + 1 → j' ≡ 2 * (n - (k + 1)) + 1
      → sum_from (weighed_term (odds w) (odds r) n) (k + 2) (m - (k + 2)) (d ⊕ w ‼ i ⊗ r ‼ j ⊕ w ‼ i' ⊗ r ‼ j') ≡ sum_from (weighed_term (odds w) (odds r) n) k (m - k) d
  odd_turn h a b a' b' =
      rw (odd_at w k i nan a, odd_at r (n - k) j nan b, odd_at w (k + 1) i' nan a', odd_at r (n - (k + 1)) j' nan b') (two_terms (odds w) (odds r) n k m d h)

module _ (w r : List Float) (n k m : ℕ) (d : Float) (i j : ℕ) where
  pub even_last : k + 1 ≡ m → i ≡ 2 * k → j ≡ 2 * (n - k) → d ⊕ w ‼ i ⊗ r ‼ j ≡ sum_from (weighed_term (evens w) (evens r) n) k (m - k) d
  even_last h a b = rw (even_at w k i nan a, even_at r (n - k) j nan b) (last_term (evens w) (evens r) n k m d h)

  pub odd_last : k + 1 ≡ m → i ≡ 2 * k + 1 → j ≡ 2 * (n - k) + 1 → d ⊕ w ‼ i ⊗ r ‼ j ≡ sum_from (weighed_term (odds w) (odds r) n) k (m - k) d
  odd_last h a b = rw (odd_at w k i nan a, odd_at r (n - k) j nan b) (last_term (odds w) (odds r) n k m d h)

-- ---- a sum in parts, and one that no later term changes

sum_parts : (f : ℕ → Float) (k a b : ℕ) (d : Float) → sum_from f k (a + b) d ≡ sum_from f (k + a) b (sum_from f k a d)
unfolding sum_from
sum_parts f k zero b d =
    let here : k + 0 ≡ k = omega arith in
    rw (zero-add b, here) refl
sum_parts f k (suc a) b d =
    let on : suc a + b ≡ suc (a + b) = omega arith in
    let there : k + suc a ≡ suc k + a = omega arith in
    rw (on, there) (sum_parts f (suc k) a b (d ⊕ f k))

-- the terms from k to below m, of which those to below k' are in d'
pub sum_cut : (f : ℕ → Float) (k k' m : ℕ) (d d' : Float) → k ≤ k' → k' ≤ m → d' ≡ sum_from f k (k' - k) d → sum_from f k' (m - k') d' ≡ sum_from f k (m - k) d
sum_cut f k k' m d d' h l e =
    let there : k + (k' - k) ≡ k' = omega arith in
    let all : k' - k + (m - k') ≡ m - k = omega arith in
    rw e (sym (rw (all, there) at (sum_parts f k (k' - k) (m - k') d)))

sum_stays : (f : ℕ → Float) (k n : ℕ) (d : Float) → ((i : ℕ) → k ≤ i → i < k + n → d ⊕ f i ≡ d) → sum_from f k n d ≡ d
unfolding sum_from
sum_stays f k zero d h = refl
sum_stays f k (suc n) d h = ap (sum_from f (suc k) n) (h k (omega arith) (omega arith)) ∙ sum_stays f (suc k) n d (λ i a b. h i (omega arith) (omega arith))

-- every product of later entries is lost in d
module _ (w r : List Float) (t : List ℕ) (p n k top : ℕ) (d : Float) (tops : Tops 1152 t w) (high : Highest p n r) (short : n < 576) (some : 1 ≤ k) (is : top ≡ get_or t (2 * k) 0)
    (lost : (x y : Float) → UpTo top x → UpTo p y → d ⊕ x ⊗ y ≡ d) where
  pub even_stays : sum_from (weighed_term (evens w) (evens r) n) k (n + 1 - k) d ≡ d
  even_stays =
      sum_stays (weighed_term (evens w) (evens r) n) k (n + 1 - k) d
      (λ i a b. rw (← even_at w i (2 * i) nan refl, ← even_at r (n - i) (2 * (n - i)) nan refl)
      (lost (w ‼ (2 * i)) (r ‼ (2 * (n - i))) (rw is (tops (2 * k) (2 * i) (omega arith) (omega arith))) (high (2 * (n - i)) (omega arith))))

  pub odd_stays : sum_from (weighed_term (odds w) (odds r) n) k (n + 1 - k) d ≡ d
  odd_stays =
      sum_stays (weighed_term (odds w) (odds r) n) k (n + 1 - k) d
      (λ i a b. rw (← odd_at w i (2 * i + 1) nan refl, ← odd_at r (n - i) (2 * (n - i) + 1) nan refl)
      (lost (w ‼ (2 * i + 1)) (r ‼ (2 * (n - i) + 1)) (rw is (tops (2 * k) (2 * i + 1) (omega arith) (omega arith))) (high (2 * (n - i) + 1) (omega arith))))
