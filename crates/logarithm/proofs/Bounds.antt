-- How large the exact terms are: the series' sum is from 24/25 to 25/24, and the logarithm of m at most 5/8 of that of 2. Assumes nothing.
use mathlib.Core.Path.{◌≡◌, refl}
use mathlib.Core.Bool.{false}
use Prim.Native.Nat.{ℕ, ◌+◌, ◌-◌, ◌*◌, ◌^◌, ◌≤◌}
use native.Mathlib.Nat.{le_trans, mul-le-mul, mul-le-mul_left, mul-le-mul_right, mul-pos}
use native.Mathlib.Omega.{arith}
use lib.Dec.{lit<, lit≤}
use Rattle.elementary.specs.Series.{odd_number}
use Rattle.elementary.specs.Exact.{L40, ten40}
use Rattle.elementary.proofs.Ratio.{Ratio}
use Rattle.elementary.proofs.Rounding.{Middle}
use Rattle.elementary.proofs.Chain.{under, over, under_pos, plus_most, least}
use Rattle.elementary.proofs.Tail.{tail_ratio}
use Rattle.logarithm.specs.Ln.{highest}
use Rattle.logarithm.proofs.Value.{top, bottom, shrinks}

odd_pos : (j : ℕ) → 1 ≤ odd_number j
unfolding odd_number
odd_pos j = omega arith

module _ (τ Δ : ℕ) (small : 5 * τ ≤ Δ) (Δ⁺ : 1 ≤ Δ) where
  pub bottom_pos : (n : ℕ) → 1 ≤ bottom Δ n
  bottom_pos n = under_pos odd_number (Δ * Δ) odd_pos (mul-pos Δ⁺ Δ⁺) 0 n

  pub sum_most : (n : ℕ) → 24 * top τ Δ n ≤ 25 * bottom Δ n
  unfolding odd_number
  sum_most n = omega (arith, plus_most odd_number (τ * τ) (Δ * Δ) 1 25 24 (lit< tt) refl 0 (shrinks τ Δ small) n)

  pub sum_least : (n : ℕ) → 24 * bottom Δ n ≤ 25 * top τ Δ n
  unfolding odd_number
  sum_least n = omega (arith, least odd_number (τ * τ) (Δ * Δ) false 1 25 24 refl 0 (shrinks τ Δ small) n)

  -- the terms that are left out are less than a factor
  pub tail_close : Ratio 1 (top τ Δ highest) (bottom Δ highest) (top τ Δ 31) (bottom Δ 31)
  unfolding odd_number under over
  tail_close = tail_ratio odd_number false (τ * τ) (Δ * Δ) 1 25 highest (30 - highest) 36028797018963968 odd_pos (lit≤ tt) (omega (arith, mul-le-mul small small)) tt 1 25 24 1 864691128455135207 refl (lit< tt) (shrinks τ Δ small) refl (lit≤ tt) tt

-- twice the sum is at most 5/8 of k * L
pub less : (τ Δ : ℕ) → 5 * τ ≤ Δ → 1 ≤ Δ → (K : ℕ) → 1 ≤ K → 8 * (2 * (τ * top τ Δ 31) * ten40) ≤ 5 * (K * L40 * (Δ * bottom Δ 31))
unfolding L40 ten40
less τ Δ small Δ⁺ K p = go (top τ Δ 31) (bottom Δ 31) L40 ten40 (sum_most τ Δ small Δ⁺ 31) (lit≤ tt)
  where
    go : (N E L T : ℕ) → 24 * N ≤ 25 * E → 2 * T ≤ 3 * L → 8 * (2 * (τ * N) * T) ≤ 5 * (K * L * (Δ * E))
    go N E L T h c =
        let a : 5 * τ * (24 * N) ≤ Δ * (25 * E) = mul-le-mul small h in
        let b : 5 * τ * (24 * N) * T ≤ Δ * (25 * E) * T = mul-le-mul_right T a in
        let d : 2 * T * (Δ * E) ≤ 3 * L * (Δ * E) = mul-le-mul_right (Δ * E) c in
        let e : 1 * (L * (Δ * E)) ≤ K * (L * (Δ * E)) = mul-le-mul_right (L * (Δ * E)) p in
        omega arith

-- ---- far from the ends of the range: from 1 / k to k, k at most 2 ^ 900
pub middle_of : (a c k : ℕ) → c ≤ a * k → a ≤ c * k → k ≤ 2 ^ 900 → Middle a c
middle_of a c k l h s = record { least = le_trans l (mul-le-mul_left a s); most = le_trans h (mul-le-mul_left c s) }

pub near_middle : (τ Δ : ℕ) → 5 * τ ≤ Δ → Δ ≤ τ * 36028797018963968 → 1 ≤ Δ → Middle (2 * (τ * top τ Δ 31)) (Δ * bottom Δ 31)
near_middle τ Δ small large Δ⁺ = go (top τ Δ 31) (bottom Δ 31) (sum_most τ Δ small Δ⁺ 31) (sum_least τ Δ small Δ⁺ 31)
  where
    go : (N E : ℕ) → 24 * N ≤ 25 * E → 24 * E ≤ 25 * N → Middle (2 * (τ * N)) (Δ * E)
    go N E h l = middle_of (2 * (τ * N)) (Δ * E) 36028797018963968 (omega (arith, mul-le-mul large l)) (omega (arith, mul-le-mul small h)) (lit≤ tt)

-- k * L, the sum and the difference
module _ (K D b : ℕ) (p : 1 ≤ K) (h : K ≤ 2047) (l : 8 * (b * ten40) ≤ 5 * (K * L40 * D)) where
  range : (2 * ten40 ≤ 3 * (K * L40)) × (K * L40 ≤ 2047 * ten40)
  unfolding L40 ten40
  range = (le_trans {m = 3 * (1 * L40)} (lit≤ tt) (mul-le-mul_left 3 (mul-le-mul_right L40 p)), le_trans (mul-le-mul_right L40 h) (lit≤ tt))

  pub sum_middle : Middle (K * L40 * D + b * ten40) (ten40 * D)
  sum_middle = middle_of (K * L40 * D + b * ten40) (ten40 * D) 4096 (omega (arith, mul-le-mul_right D range.0)) (omega (arith, mul-le-mul_right D range.1)) (lit≤ tt)

  pub difference_middle : (z : ℕ) → z + b * ten40 ≡ K * L40 * D → Middle z (ten40 * D)
  difference_middle z e = middle_of z (ten40 * D) 4096 (omega (arith, mul-le-mul_right D range.0)) (omega (arith, mul-le-mul_right D range.1)) (lit≤ tt)
