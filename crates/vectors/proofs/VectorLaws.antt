-- Sums, growing lists and entries from an index on, turn by turn. Assumes nothing.
use mathlib.Core.Path.{◌≡◌, refl, ap, ◌∙◌}
use mathlib.Core.List.{List, [], ◌∷◌, ◌++◌, map}
use Prim.Native.Nat.{ℕ, zero, suc, ◌+◌, ◌-◌, ◌≤◌, ◌<◌}
use native.Mathlib.Omega.{arith}
use native.Mathlib.Numerals.{add-one}
use lib.Ieee.{Float, nan}
use lib.ListN.{length, take, drop, set, length-append}
use Rattle.number.specs.F64.{◌⊕◌, ◌‼◌}
use Rattle.number.proofs.Lists.{left_next, left_none, front_turn, front_end}
use Rattle.vectors.specs.Vectors.{sum_from, grown, plus}

-- ---- sums

module _ (f : ℕ → Float) (k m : ℕ) (d : Float) where
  -- the terms from k to below m: one turn, and the end
  pub sum_turn : k < m → sum_from f (k + 1) (m - (k + 1)) (d ⊕ f k) ≡ sum_from f k (m - k) d
  unfolding sum_from
  sum_turn h =
      let e : m - k ≡ suc (m - (k + 1)) = omega arith in
      rw (e, add-one k) refl

  pub sum_done : m ≤ k → sum_from f k (m - k) d ≡ d
  unfolding sum_from
  sum_done h =
      let e : m - k ≡ 0 = omega arith in
      rw e refl

-- two sums of the same terms
pub sum_same : (f g : ℕ → Float) (k n : ℕ) (d : Float) → ((i : ℕ) → k ≤ i → i < k + n → f i ≡ g i) → sum_from f k n d ≡ sum_from g k n d
unfolding sum_from
sum_same f g k zero d h = refl
sum_same f g k (suc n) d h =
    ap (λ (x : Float). sum_from f (suc k) n (d ⊕ x)) (h k (omega arith) (omega arith)) ∙ sum_same f g (suc k) n (d ⊕ g k) (λ i a b. h i (omega arith) (omega arith))

-- ---- lists that grow

pub length_grown : (f : List Float → ℕ → Float) (n : ℕ) → length (grown f n) ≡ n
unfolding grown
length_grown f zero = refl
length_grown f (suc n) = simp length-append (omega (arith, length_grown f n))

pub grown_more : (f : List Float → ℕ → Float) (n : ℕ) → grown f (n + 1) ≡ grown f n ++ (f (grown f n) n ∷ [])
unfolding grown
grown_more f n = rw (add-one n) refl

-- ---- all entries from an index on

module _ (f : Float → Float) (l : List Float) (i : ℕ) where
  pub map_turn : i < length l → take (i + 1) (set l i (f (l ‼ i))) ++ map f (drop (i + 1) (set l i (f (l ‼ i)))) ≡ take i l ++ map f (drop i l)
  map_turn h = front_turn (map f) (map f) l i (f (l ‼ i)) nan h refl

  pub map_done : length l ≤ i → take i l ++ map f (drop i l) ≡ l
  map_done h = front_end l (map f (drop i l)) i h (ap (map f) (left_none l i h))

-- ---- two lists, place by place

module _ (l m : List Float) (i : ℕ) where
  pub plus_turn : i < length l → i < length m
      → take (i + 1) (set l i (l ‼ i ⊕ m ‼ i)) ++ plus (drop (i + 1) (set l i (l ‼ i ⊕ m ‼ i))) (drop (i + 1) m) ≡ take i l ++ plus (drop i l) (drop i m)
  unfolding plus
  plus_turn h k =
      front_turn (λ r. plus r (drop i m)) (λ r. plus r (drop (i + 1) m)) l i (l ‼ i ⊕ m ‼ i) nan h (rw (left_next m i nan k) refl)

  pub plus_done : length l ≤ i → take i l ++ plus (drop i l) (drop i m) ≡ l
  unfolding plus
  plus_done h = front_end l (plus (drop i l) (drop i m)) i h (rw (left_none l i h) refl)
