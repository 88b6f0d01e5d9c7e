-- The logarithm of m = μ / 2 ^ 53 in floats: within eight factors of twice τ / Δ times the series' sum, with its sign. Assumes nothing.
use mathlib.Core.Path.{◌≡◌, refl, sym, ap, ◌∙◌, subst}
use mathlib.Core.Bool.{Bool, true, false}
use Prim.Native.Nat.{ℕ, ◌+◌, ◌*◌, ◌^◌, ◌≤◌, ◌<◌}
use native.Mathlib.Nat.{le_trans, mul_assoc, mul-le-mul, mul-le-mul_left, mul-le-mul_right, mul-lt-mul_of_pos_right, lt_of_lt_of_le}
use native.Mathlib.Omega.{arith}
use lib.Dec.{T, ltb, lit<, lit≤}
use lib.Pow.{pow_pos}
use lib.Ieee.{Float, binary64, round, of_bits, neg}
use lib.Ieee.Exact.{HasValue, round_exact}
use Rattle.number.specs.F64.{◌⊕◌, ◌⊗◌, ◌⊘◌, 1f, 2f}
use Rattle.elementary.specs.Series.{odd_number}
use Rattle.elementary.proofs.Rounding.{Close, Middle, close_of_value, close_to, close_near, mul_middle, div_middle}
use Rattle.elementary.proofs.Weighted.{add_middle}
use Rattle.elementary.proofs.Chain.{plus_weight}
use Rattle.elementary.proofs.FloatChain.{Argument, are_reciprocals, reciprocals, horner_close, turned}
use Rattle.elementary.proofs.Signs.{mul_neg_left, mul_neg_right, div_neg_left, neg_neg}
use Rattle.logarithm.specs.Ln.{coefficient, highest, sum_of, near_one}
use Rattle.logarithm.proofs.Pattern.{W}
use Rattle.logarithm.proofs.Difference.{gap, difference}
use Rattle.logarithm.proofs.Value.{top, bottom, shrinks}
use Rattle.logarithm.proofs.Bounds.{middle_of, bottom_pos, tail_close, near_middle}

-- ---- the signs: t has that of m - 1, and so has the answer
-- the size of t
abbrev pub ratio : Float → ℕ → Float
ratio m μ = round binary64 false (gap μ W) W ⊘ (m ⊕ 1f)

-- the logarithm by a t that is u
abbrev pub sized : Float → Float
sized u = 2f ⊗ u ⊗ sum_of (u ⊗ u)

sized_neg : (u : Float) → sized (neg u) ≡ neg (sized u)
sized_neg u =
    ap (λ (z : Float). z ⊗ sum_of (neg u ⊗ neg u)) (mul_neg_right 2f u) ∙ ap (λ (z : Float). neg (2f ⊗ u) ⊗ sum_of z) (mul_neg_left u (neg u) ∙ ap neg (mul_neg_right u u) ∙ neg_neg (u ⊗ u)) ∙ mul_neg_left (2f ⊗ u) (sum_of (u ⊗ u))

pub near_is : (m : Float) (μ : ℕ) → HasValue m false μ W → near_one m ≡ turned (ltb μ W) (sized (ratio m μ))
unfolding near_one of_bits
near_is m μ v = ap (λ (d : Float). sized (d ⊘ (m ⊕ 1f))) (difference m μ W 1 (lit< tt) v) ∙ go (ltb μ W)
  where
    d : Float
    d = round binary64 false (gap μ W) W

    go : (s : Bool) → sized (turned s d ⊘ (m ⊕ 1f)) ≡ turned s (sized (d ⊘ (m ⊕ 1f)))
    go false = refl
    go true = ap sized (div_neg_left d (m ⊕ 1f)) ∙ sized_neg (d ⊘ (m ⊕ 1f))

-- ---- the sizes
one_close : Close 0 1f 1 1
unfolding of_bits
one_close = close_of_value 1f 1 1 (lit< tt) (refl, refl)

two_close : Close 0 2f 2 1
unfolding of_bits
two_close = close_of_value 2f 2 1 (lit< tt) (refl, refl)

-- the difference from 1 has at most 53 digits: rounding changes nothing
exact : (δ : ℕ) → δ < W → HasValue (round binary64 false δ W) false δ W
exact δ h = round_exact binary64 false δ W δ 1021 (lit< tt) h (lt_of_lt_of_le (mul-lt-mul_of_pos_right h (pow_pos 1021)) (lit≤ tt)) (sym (mul_assoc δ (2 ^ 1021) W))

-- the coefficients are within a factor of 1 / (2 * j + 1)
coefficients : T (are_reciprocals 24 coefficient odd_number 0 highest)
unfolding are_reciprocals coefficient odd_number round
coefficients = tt

module _ (m : Float) (μ τ Δ : ℕ) (v : HasValue m false μ W) (l : 3 * W ≤ 4 * μ) (h : 2 * μ < 3 * W) (δ⁺ : 1 ≤ gap μ W) (cross : gap μ W * Δ ≡ τ * (μ + W)) (Δ⁺ : 1 ≤ Δ) where
  more_close : Close 1 (m ⊕ 1f) (μ * 1 + 1 * W) (W * 1)
  more_close = add_middle 0 3 4 (close_of_value m μ W (omega arith) v) one_close (omega arith) tt (middle_of (μ * 1 + 1 * W) (W * 1) 4 (omega arith) (omega arith) (lit≤ tt))

  pub ratio_close : Close 2 (ratio m μ) τ Δ
  ratio_close =
      close_to τ Δ Δ⁺ (turn (gap μ W) cross)
      (div_middle (close_of_value (round binary64 false (gap μ W) W) (gap μ W) W δ⁺ (exact (gap μ W) (omega arith))) more_close (lit≤ tt)
      (middle_of (gap μ W * (W * 1)) ((μ * 1 + 1 * W) * W) (4 * W) (low (gap μ W) W μ δ⁺ h) (high (gap μ W) W μ (lit< tt) (omega arith)) (lit≤ tt)))
    where
      low : (δ w μ : ℕ) → 1 ≤ δ → 2 * μ < 3 * w → (μ * 1 + 1 * w) * w ≤ δ * (w * 1) * (4 * w)
      low δ w μ p h = omega (arith, mul-le-mul_right {m = μ + w} {n = 4 * w} w (omega arith), mul-le-mul_right (4 * (w * w)) p)

      high : (δ w μ : ℕ) → 1 ≤ w → δ ≤ μ + w → δ * (w * 1) ≤ (μ * 1 + 1 * w) * w * (4 * w)
      high δ w μ p h = omega (arith, mul-le-mul_right w h, mul-le-mul_left ((μ + w) * w) p)

      turn : (δ : ℕ) → δ * Δ ≡ τ * (μ + W) → δ * (W * 1) * Δ ≡ τ * ((μ * 1 + 1 * W) * W)
      turn δ e = omega arith

  -- z = t * t
  module _ (small : 5 * τ ≤ Δ) (large : Δ ≤ τ * 36028797018963968) where
    pub square_close : Close 5 (ratio m μ ⊗ ratio m μ) (τ * τ) (Δ * Δ)
    square_close = mul_middle ratio_close ratio_close (lit≤ tt) (middle_of (τ * τ) (Δ * Δ) 1298074214633706907132624082305024 (omega (arith, mul-le-mul large large)) (omega (arith, mul-le-mul small small)) (lit≤ tt))

    argument : Argument 5 (ratio m μ ⊗ ratio m μ) (τ * τ) (Δ * Δ)
    argument = record {
      close = square_close;
      least = le_trans (omega (arith, mul-le-mul large large)) (mul-le-mul_left {m = 1298074214633706907132624082305024} (τ * τ) (lit≤ tt));
      most = omega (arith, mul-le-mul small small);
    }

    sum_close : Close 4 (sum_of (ratio m μ ⊗ ratio m μ)) (top τ Δ 31) (bottom Δ 31)
    unfolding sum_of
    sum_close =
        close_near (bottom_pos τ Δ small Δ⁺ 31)
        (horner_close odd_number false (τ * τ) (Δ * Δ) coefficient (ratio m μ ⊗ ratio m μ) 5 2 24 1 0 highest (lit< tt) (lit≤ tt) tt argument (reciprocals 24 coefficient odd_number 0 highest coefficients)
        (plus_weight odd_number (τ * τ) (Δ * Δ) 1 25 24 (lit< tt) refl 0 (shrinks τ Δ small)) 0 highest (lit≤ tt) (lit≤ tt)).close
        (tail_close τ Δ small Δ⁺)

    pub near_close : Close 8 (sized (ratio m μ)) (2 * (τ * top τ Δ 31)) (Δ * bottom Δ 31)
    near_close = go (top τ Δ 31) (bottom Δ 31) sum_close (near_middle τ Δ small large Δ⁺)
      where
        go : (N E : ℕ) → Close 4 (sum_of (ratio m μ ⊗ ratio m μ)) N E → Middle (2 * (τ * N)) (Δ * E) → Close 8 (sized (ratio m μ)) (2 * (τ * N)) (Δ * E)
        go N E c mid =
            let e : 2 * τ * N ≡ 2 * (τ * N) = omega arith in
            let f : 1 * Δ * E ≡ Δ * E = omega arith in
            subst (λ (z : ℕ). Close 8 (sized (ratio m μ)) z (Δ * E)) e
            (subst (λ (z : ℕ). Close 8 (sized (ratio m μ)) (2 * τ * N) z) f
            (mul_middle (mul_middle two_close ratio_close (lit≤ tt) (middle_of (2 * τ) (1 * Δ) 36028797018963968 (omega arith) (omega arith) (lit≤ tt))) c (lit≤ tt) (rw (e, f) mid)))
