-- The fraction t = (m - 1) / (m + 1) for m = p / q = μ / 2 ^ 53: its sign, its size τ / Δ, and the range of that. Assumes nothing.
use mathlib.Core.Path.{◌≡◌, sym, ap, ◌∙◌}
use Prim.Native.Nat.{ℕ, ◌+◌, ◌*◌, ◌≤◌, ◌<◌}
use native.Mathlib.Nat.{le_of_lt, lt_of_not-le, mul-le-mul_left, mul-le-mul_right, mul-lt-mul_of_pos_right}
use native.Mathlib.Decide.{dec_le}
use native.Mathlib.Omega.{arith}
use borrow.Author.Tests.{lt-ltb, le-ltb}
use lib.Dec.{ltb}
use Rattle.logarithm.proofs.Pattern.{W}
use Rattle.logarithm.proofs.Difference.{gap}

module _ (p q μ : ℕ) (Q : 0 < q) (e : p * W ≡ μ * q) (l : 3 * W ≤ 4 * μ) (h : 2 * μ < 3 * W) where
  -- m is from 3/4 up and below 3/2
  pub part_least : 3 * q ≤ 4 * p
  part_least = let z : 3 * W * q ≤ 4 * μ * q = mul-le-mul_right q l in omega arith

  pub part_most : 2 * p < 3 * q
  part_most = let z : 2 * μ * q < 3 * W * q = mul-lt-mul_of_pos_right h Q in omega arith

  pub small : 5 * gap p q ≤ p + q
  small = let a = part_least in let b = part_most in omega arith

  above : W ≤ μ → q ≤ p
  above g = let z : W * q ≤ μ * q = mul-le-mul_right q g in omega arith

  below : μ < W → p < q
  below g = let z : μ * q < W * q = mul-lt-mul_of_pos_right g Q in omega arith

  pub sign_is : ltb p q ≡ ltb μ W
  sign_is = go (dec_le W μ)
    where
      go : Dec (W ≤ μ) → ltb p q ≡ ltb μ W
      go (yes g) = le-ltb p q (above g) ∙ sym (le-ltb μ W g)
      go (no n) = lt-ltb p q (below (lt_of_not-le n)) ∙ sym (lt-ltb μ W (lt_of_not-le n))

  pub cross : gap μ W * (p + q) ≡ gap p q * (μ + W)
  cross = go (dec_le W μ)
    where
      up : (τ δ : ℕ) → τ + q ≡ p → δ + W ≡ μ → δ * (p + q) ≡ τ * (μ + W)
      up τ δ f g =
          let a : (τ + q) * μ ≡ p * μ = ap (λ (z : ℕ). z * μ) f in
          let b : (δ + W) * p ≡ μ * p = ap (λ (z : ℕ). z * p) g in
          let c : (δ + W) * q ≡ μ * q = ap (λ (z : ℕ). z * q) g in
          omega arith

      down : (τ δ : ℕ) → τ + p ≡ q → δ + μ ≡ W → δ * (p + q) ≡ τ * (μ + W)
      down τ δ f g =
          let a : (τ + p) * μ ≡ q * μ = ap (λ (z : ℕ). z * μ) f in
          let b : (δ + μ) * p ≡ W * p = ap (λ (z : ℕ). z * p) g in
          let c : (δ + μ) * q ≡ W * q = ap (λ (z : ℕ). z * q) g in
          omega arith

      go : Dec (W ≤ μ) → gap μ W * (p + q) ≡ gap p q * (μ + W)
      go (yes g) = let k = above g in up (gap p q) (gap μ W) (omega arith) (omega arith)
      go (no n) = let k = below (lt_of_not-le n) in let j = lt_of_not-le n in down (gap p q) (gap μ W) (omega arith) (omega arith)

  -- where m is 1, t is 0
  pub none : gap μ W ≡ 0 → gap p q ≡ 0
  none z = let k : μ ≡ W = omega arith in let g : μ * q ≡ W * q = ap (λ (z : ℕ). z * q) k in omega arith

  -- where m is not 1, t is at least 2 ^ -55
  pub large : 1 ≤ gap μ W → p + q ≤ gap p q * 36028797018963968
  large g = let z : 1 * (p + q) ≤ gap μ W * (p + q) = mul-le-mul_right (p + q) g in let k : gap p q * (2 * μ) ≤ gap p q * (3 * W) = mul-le-mul_left (gap p q) (le_of_lt h) in omega (arith, cross)
