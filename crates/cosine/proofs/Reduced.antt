-- Of a float up to 2 ^ 20 in size, the code's angle is within 3 units of the definition's. Assumes nothing.
use Rattle.std.proofs.Common.{ℕ, ◌+◌, ◌*◌, ◌/◌, ◌^◌, ◌<◌, ◌≤◌, le_of_lt, mul-le-mul_right, lt_of_mul-lt-mul_right, mul-le-mul_left, mul-pos, div-mul-le_self, arith, lit<, lit≤}
use native.Mathlib.Nat.{le_of_mul-le-mul_left, lt-div-mul-add}
use lib.Ieee.{Float}
use lib.Ieee.Positive.{num, den, den_pos}
use Rattle.elementary.specs.Band.{sign_of}
use Rattle.elementary.specs.Exact.{ten40, P40, cos_turns}
use Rattle.cosine.specs.Cos.{one, units_of, turns_of, turn, multiple, gap, rest_of}
use Rattle.cosine.proofs.Turns.{turns_small, multiple_near, Folded, folded}
use Rattle.cosine.proofs.Exact.{multiple_low, multiple_high, gaps, fold_near, nearest_half, same_turn}
use Rattle.cosine.proofs.Steps.{Angle}

-- 2P in units lies from `turn` to the next whole number, and P is at most 3.15
turn_low : turn * ten40 ≤ 2 * P40 * one
unfolding ten40 P40
turn_low = lit≤ tt

turn_high : 2 * P40 * one ≤ (turn + 1) * ten40
unfolding ten40 P40
turn_high = lit≤ tt

pi_small : 20 * P40 ≤ 63 * ten40
unfolding ten40 P40
pi_small = lit≤ tt

ten40_above : 0 < ten40
unfolding ten40
ten40_above = lit< tt

P40-above : 0 < P40
unfolding P40
P40-above = lit< tt

-- In the module: |x| is A / D, and u units; 2P is G / D; the code's multiple is k * 2P.
module _ (x : Float) (within : num x ≤ 2 ^ 20 * den x) where
  abbrev u : ℕ
  u = units_of x

  abbrev A : ℕ
  A = num x * ten40

  abbrev pub D : ℕ
  D = den x * ten40

  abbrev G : ℕ
  G = 2 * (den x * P40)

  abbrev k : ℕ
  k = turns_of (u / one)

  u_most : u ≤ 2 ^ 79
  unfolding units_of
  u_most = go (num x * 2 ^ 59 / den x) (div-mul-le_self (num x * 2 ^ 59) (den x))
    where
      go : (q : ℕ) → q * den x ≤ num x * 2 ^ 59 → q ≤ 2 ^ 79
      go q h = le_of_mul-le-mul_left {k = den x} (omega (arith, mul-le-mul_right (2 ^ 59) within)) (den_pos x)

  -- |x| within a unit
  u_low : u * D ≤ A * one
  unfolding units_of
  u_low = go (num x * 2 ^ 59 / den x) ten40 (div-mul-le_self (num x * 2 ^ 59) (den x))
    where
      go : (q l : ℕ) → q * den x ≤ num x * 2 ^ 59 → q * (den x * l) ≤ num x * l * one
      go q l h = omega (arith, mul-le-mul_right l h)

  u_high : A * one ≤ u * D + D
  unfolding units_of
  u_high = go (num x * 2 ^ 59 / den x) ten40 (le_of_lt (lt-div-mul-add {a = num x * 2 ^ 59} {b = den x} (den_pos x)))
    where
      go : (q l : ℕ) → num x * 2 ^ 59 ≤ q * den x + den x → num x * l * one ≤ q * (den x * l) + den x * l
      go q l h = omega (arith, mul-le-mul_right l h)

  k_small : k ≤ 2 ^ 18
  k_small = turns_small (u / one) (go u u_most)
    where
      go : (q : ℕ) → q ≤ 2 ^ 79 → q / one ≤ 2 ^ 20
      go q h = omega arith

  -- the multiple within 2 units
  m_low : multiple k * D ≤ k * G * one
  m_low = go (multiple k) k ten40 P40 (multiple_low k)
    where
      go : (m k l p : ℕ) → m * l ≤ k * (2 * p) * one → m * (den x * l) ≤ k * (2 * (den x * p)) * one
      go m k l p h = omega (arith, mul-le-mul_right (den x) h)

  m_high : k * G * one ≤ multiple k * D + 2 * D
  m_high = go (multiple k) k ten40 P40 (multiple_high k k_small)
    where
      go : (m k l p : ℕ) → k * (2 * p) * one ≤ m * l + 2 * l → k * (2 * (den x * p)) * one ≤ m * (den x * l) + 2 * (den x * l)
      go m k l p h = omega (arith, mul-le-mul_right (den x) h)

  -- 2P within a unit
  g_low : turn * D ≤ G * one
  g_low = go ten40 P40 turn_low
    where
      go : (l p : ℕ) → turn * l ≤ 2 * p * one → turn * (den x * l) ≤ 2 * (den x * p) * one
      go l p h = omega (arith, mul-le-mul_right (den x) h)

  g_high : G * one ≤ turn * D + D
  g_high = go ten40 P40 turn_high
    where
      go : (l p : ℕ) → 2 * p * one ≤ (turn + 1) * l → 2 * (den x * p) * one ≤ turn * (den x * l) + den x * l
      go l p h = omega (arith, mul-le-mul_right (den x) h)

  pub D⁺ : 0 < D
  D⁺ = mul-pos (den_pos x) ten40_above

  G⁺ : 0 < G
  G⁺ = mul-pos (lit< tt) (mul-pos (den_pos x) P40-above)

  -- how far |x| is from the code's multiple, in units and exactly, and from the nearest
  abbrev S : ℕ
  S = gap u (multiple k)

  abbrev σ : ℕ
  σ = gap A (k * G)

  abbrev pub ρ : ℕ
  ρ = gap A (cos_turns x * G)

  distances : (S * D ≤ σ * one + 2 * D) × (σ * one ≤ S * D + 2 * D)
  distances = gaps one D u (multiple k) A (k * G) u_low u_high m_low m_high

  less_than_turn : σ < G
  less_than_turn = lt_of_mul-lt-mul_right one (go S σ G D D⁺ (multiple_near u u_most) distances.1 g_low)
    where
      go : (s r q d : ℕ) → 0 < d → 4 * s ≤ 3 * turn → r * one ≤ s * d + 2 * d → turn * d ≤ q * one → r * one < q * one
      go s r q d d⁺ h k l = omega (arith, mul-le-mul_right d h)

  half : 2 * ρ ≤ G
  unfolding cos_turns
  half = nearest_half (sign_of x) A G G⁺

  R-folded : Folded turn S (rest_of u)
  unfolding rest_of
  R-folded = folded S (omega (arith, multiple_near u u_most))

  pub angle : Angle one (rest_of u) D ρ
  angle =
      let n = fold_near one D G S (rest_of u) σ ρ g_low g_high R-folded (same_turn A G G⁺ (cos_turns x) k half less_than_turn) distances.0 distances.1 in
      record { hi = n.0; lo = n.1; small = omega (arith, R-folded.half); most = most ρ ten40 P40 half pi_small }
    where
      most : (r l p : ℕ) → 2 * r ≤ 2 * (den x * p) → 20 * p ≤ 63 * l → 20 * r ≤ 63 * (den x * l)
      most r l p h k = omega (arith, mul-le-mul_left (den x) k)
