-- Lists of floats: sums in rising index, lists that grow entry by entry, and all entries from an index on. Assumes nothing.
use Rattle.std.specs.Prelude.{List, [], ◌∷◌, ◌++◌, map, ℕ, zero, suc, length, take, drop, Float}
use Rattle.number.specs.F64.{◌⊕◌, ◌⊗◌, ◌⊘◌, ◌‼◌, 0f}

-- d + f k + f (k + 1) + .., n terms, each added to the sum of those before it
unfoldable pub sum_from : (ℕ → Float) → (k n : ℕ) → Float → Float
sum_from f k zero d = d
sum_from f k (suc n) d = sum_from f (suc k) n (d ⊕ f k)

-- the sum of the squares, in rising index from zero
unfoldable pub energy_of : List Float → Float
unfolding sum_from
energy_of l = sum_from (λ i. l ‼ i ⊗ l ‼ i) 0 (length l) 0f

-- n entries, of which each is made from those before it: entry i is f of them and i
unfoldable pub grown : (List Float → ℕ → Float) → ℕ → List Float
grown f zero = []
grown f (suc n) = let before = grown f n in before ++ (f before n ∷ [])

-- the entries from j on multiplied, and divided, by k
unfoldable pub times_from : ℕ → Float → List Float → List Float
times_from j k l = take j l ++ map (λ x. x ⊗ k) (drop j l)

unfoldable pub over_from : ℕ → Float → List Float → List Float
over_from j k l = take j l ++ map (λ x. x ⊘ k) (drop j l)

-- each entry with the one at its place in the other list added, as far as there are both
unfoldable pub plus : List Float → List Float → List Float
plus [] l = []
plus (x ∷ xs) [] = x ∷ xs
plus (x ∷ xs) (y ∷ ys) = x ⊕ y ∷ plus xs ys
