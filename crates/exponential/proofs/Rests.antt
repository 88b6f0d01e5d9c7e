-- What the range reduction gives: the definition's k, and rests of at most 0.35. Assumes nothing.
use Rattle.std.proofs.Common.{◌≡◌, ℕ, zero, suc, ◌+◌, ◌-◌, ◌*◌, ◌<◌, ◌≤◌, Bool, true, false, ap, inl, inr, mul-le-mul_right, mul-le-mul_left, mul-pos, le_of_mul-le-mul_right, arith, lit≤}
use native.Mathlib.Nat.{div-eq_of_lt-le}
use Rattle.elementary.specs.Exact.{ten40, L40, nearest}
use Rattle.exponential.proofs.Scaled.{U}
use Rattle.exponential.proofs.Reduced.{gap, Apart, apart, Turned, Near, digits_pos}

odd : (k : ℕ) → 2 * suc k - 1 ≡ 2 * k + 1
odd k = omega arith

-- ---- k is the definition's: the whole number nearest to A / B
pub turns_are : (s : Bool) (a b k : ℕ) → 0 < b → Turned a b k → nearest s (a * ten40) (b * L40) ≡ k
unfolding nearest
turns_are s a b k P t = go s (a * ten40) (b * L40) k (mul-pos P digits_pos) t.above t.below
  where
    least : (A B k : ℕ) → 0 < B → (1 ≤ k → (2 * k - 1) * B < 2 * A) → k * (2 * B) + 1 ≤ 2 * A + B
    least A B zero P h = omega arith
    least A B (suc k) P h = let x : (2 * suc k - 1) * B < 2 * A = h (omega arith) in let y = ap (λ (z : ℕ). z * B) (odd k) in omega arith

    go : (s : Bool) (A B k : ℕ) → 0 < B → (1 ≤ k → (2 * k - 1) * B < 2 * A) → 2 * A < (2 * k + 1) * B → nearest s A B ≡ k
    go false A B k P h g = let l = least A B k P h in div-eq_of_lt-le (2 * B) (omega arith) (omega arith)
    go true A B k P h g = let l = least A B k P h in div-eq_of_lt-le (2 * B) (omega arith) (omega arith)

-- ---- twice the exact rest is below ln 2
half : (a b k : ℕ) → Turned a b k → 2 * gap (a * ten40) (k * L40 * b) < b * L40
half a b k t = go k (a * ten40) (b * L40) (k * L40 * b) (group k L40 b) (apart (a * ten40) (k * L40 * b)) t.above t.below
  where
    group : (k L b : ℕ) → k * L * b ≡ k * (b * L)
    group k L b = omega arith

    go : (k A B K : ℕ) → K ≡ k * B → Apart A K (gap A K) → (1 ≤ k → (2 * k - 1) * B < 2 * A) → 2 * A < (2 * k + 1) * B → 2 * gap A K < B
    go k A B K e (inl x) h g = omega arith
    go zero A B K e (inr x) h g = omega arith
    go (suc k) A B K e (inr x) h g = let y : (2 * suc k - 1) * B < 2 * A = h (omega arith) in let z = ap (λ (w : ℕ). w * B) (odd k) in omega arith

-- ln 2 is below 0.69315
ln_most : 100000 * L40 ≤ 69315 * ten40
unfolding L40 ten40
ln_most = lit≤ tt

exact_most : (a b k : ℕ) → Turned a b k → 200000 * gap (a * ten40) (k * L40 * b) ≤ 69315 * (b * ten40)
exact_most a b k t = go (gap (a * ten40) (k * L40 * b)) L40 ten40 (half a b k t) ln_most
  where
    go : (r L D : ℕ) → 2 * r < b * L → 100000 * L ≤ 69315 * D → 200000 * r ≤ 69315 * (b * D)
    go r L D h l = omega (arith, mul-le-mul_left b l)

pub exact_small : (a b k : ℕ) → Turned a b k → 20 * gap (a * ten40) (k * L40 * b) ≤ 7 * (b * ten40)
exact_small a b k t = go (gap (a * ten40) (k * L40 * b)) (b * ten40) (exact_most a b k t)
  where
    go : (r Z : ℕ) → 200000 * r ≤ 69315 * Z → 20 * r ≤ 7 * Z
    go r Z h = omega arith

-- and the code's, within a unit of it
pub code_small : (a b k X M : ℕ) → 0 < b * ten40 → Turned a b k → Near X M (a * ten40) (k * L40 * b) (b * ten40) → 20 * gap X M ≤ 7 * U
code_small a b k X M Z⁺ t n = go (gap X M) (gap (a * ten40) (k * L40 * b)) (b * ten40) U (lit≤ tt) Z⁺ (exact_most a b k t) n.hi
  where
    go : (R r Z v : ℕ) → 300 ≤ v → 0 < Z → 200000 * r ≤ 69315 * Z → R * Z ≤ r * v + Z → 20 * R ≤ 7 * v
    go R r Z v g P h l = le_of_mul-le-mul_right {k = Z} (omega (arith, mul-le-mul_right v h, mul-le-mul_right Z g)) P
