-- Polynomials as lists of coefficients, at -a: the sum of c j * (-a) ^ j, as a difference of two numbers. Assumes nothing.
use Rattle.std.proofs.Common.{◌≡◌, ℕ, ◌+◌, ◌-◌, ◌*◌, ◌≤◌, List, [], ◌∷◌, ap, mul-le-mul, mul-le-mul_left, arith}
use native.Mathlib.Decide.{dec_le}
use Rattle.elementary.specs.Fraction.{Whole}

unfoldable pub at : ℕ → List ℕ → Whole
at a [] = record { plus = 0; minus = 0 }
at a (c ∷ p) = record { plus = c + a * (at a p).minus; minus = a * (at a p).plus }

unfoldable pub add : List ℕ → List ℕ → List ℕ
add [] q = q
add (c ∷ p) [] = c ∷ p
add (c ∷ p) (d ∷ q) = (c + d) ∷ add p q

unfoldable pub times : ℕ → List ℕ → List ℕ
times k [] = []
times k (c ∷ p) = (k * c) ∷ times k p

unfoldable pub product : List ℕ → List ℕ → List ℕ
unfolding add times
product [] q = []
product (c ∷ p) q = add (times c q) (0 ∷ product p q)

-- the value of both is that of the parts
pub at_add : (a : ℕ) (p q : List ℕ) → ((at a (add p q)).plus ≡ (at a p).plus + (at a q).plus) × ((at a (add p q)).minus ≡ (at a p).minus + (at a q).minus)
unfolding at add
at_add a [] q = (omega arith, omega arith)
at_add a (c ∷ p) [] = (omega arith, omega arith)
at_add a (c ∷ p) (d ∷ q) =
    let h = at_add a p q in
    (omega (arith, ap (λ (z : ℕ). a * z) h.1), omega (arith, ap (λ (z : ℕ). a * z) h.0))

pub at_times : (a k : ℕ) (p : List ℕ) → ((at a (times k p)).plus ≡ k * (at a p).plus) × ((at a (times k p)).minus ≡ k * (at a p).minus)
unfolding at times
at_times a k [] = (omega arith, omega arith)
at_times a k (c ∷ p) =
    let h = at_times a k p in
    (omega (arith, ap (λ (z : ℕ). a * z) h.1), omega (arith, ap (λ (z : ℕ). a * z) h.0))

pub at_product : (a : ℕ) (p q : List ℕ)
    → ((at a (product p q)).plus ≡ (at a p).plus * (at a q).plus + (at a p).minus * (at a q).minus)
    × ((at a (product p q)).minus ≡ (at a p).plus * (at a q).minus + (at a p).minus * (at a q).plus)
unfolding at product
at_product a [] q = (omega arith, omega arith)
at_product a (c ∷ p) q =
    let h = at_product a p q in
    let k = at_add a (times c q) (0 ∷ product p q) in
    let l = at_times a c q in
    (omega (arith, ap (λ (z : ℕ). a * z) h.1), omega (arith, ap (λ (z : ℕ). a * z) h.0))

-- what is added is at most the value at a, and that grows with a
unfoldable pub total : ℕ → List ℕ → ℕ
total a [] = 0
total a (c ∷ p) = c + a * total a p

parts_most : (a : ℕ) (p : List ℕ) → ((at a p).plus ≤ total a p) × ((at a p).minus ≤ total a p)
unfolding at total
parts_most a [] = (omega arith, omega arith)
parts_most a (c ∷ p) = let h = parts_most a p in (omega (arith, mul-le-mul_left a h.1), omega (arith, mul-le-mul_left a h.0))

total_grows : (a b : ℕ) (p : List ℕ) → a ≤ b → total a p ≤ total b p
unfolding total
total_grows a b [] h = omega arith
total_grows a b (c ∷ p) h = omega (arith, mul-le-mul h (total_grows a b p h))

pub plus_most : (a b : ℕ) (p : List ℕ) → a ≤ b → (at a p).plus ≤ total b p
plus_most a b p h = omega (arith, (parts_most a p).0, total_grows a b p h)

-- a square is not below zero
pub square_above : (x y : ℕ) → 2 * (x * y) ≤ x * x + y * y
square_above x y = go (dec_le x y)
  where
    go : Dec (x ≤ y) → 2 * (x * y) ≤ x * x + y * y
    go (yes h) = up x (y - x) y (omega arith)
      where
        up : (x d y : ℕ) → y ≡ x + d → 2 * (x * y) ≤ x * x + y * y
        up x d y e = rw e (omega arith)
    go (no h) = down y (x - y) x (omega arith)
      where
        down : (y d x : ℕ) → x ≡ y + d → 2 * (x * y) ≤ x * x + y * y
        down y d x e = rw e (omega arith)
