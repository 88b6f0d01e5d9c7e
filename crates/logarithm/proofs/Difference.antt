-- The difference of a float μ / w and a whole number C is its exact value, rounded, with its sign: `turned`. Assumes nothing.
use mathlib.Core.Path.{◌≡◌, refl, ap, ◌∙◌}
use mathlib.Core.Bool.{true, false, true≢false}
use Prim.Native.Nat.{ℕ, ◌+◌, ◌-◌, ◌*◌, ◌≤◌, ◌<◌}
use native.Mathlib.Nat.{lt_of_not-le, mul-le-mul_right, mul-lt-mul_of_pos_right, le_of_mul-le-mul_right, lt_of_mul-lt-mul_right}
use native.Mathlib.Decide.{dec_le}
use native.Mathlib.Omega.{arith}
use lib.IntN.{ℤ, pos}
use lib.Dec.{ltb}
use lib.Ieee.{Float, nan, inf, fin, binary64, up, down, round, sum, add, sub, neg}
use lib.Ieee.Exact.{HasValue}
use lib.Ieee.Fits.{down_pos}
use lib.Ieee.Scale.{round_same}
use borrow.Author.Tests.{lt-ltb, le-ltb}
use Rattle.number.specs.F64.{◌⊖◌}
use Rattle.elementary.proofs.FloatChain.{turned}
use Rattle.elementary.proofs.Signs.{round_neg}

-- |a - b|
abbrev pub gap : ℕ → ℕ → ℕ
gap a b = (a - b) + (b - a)

module _ (n : ℕ) (k : ℤ) (μ w C : ℕ) (P : 0 < w) (v : n * up k * w ≡ μ * down k) where
  opened : fin false n k ⊖ fin false C (pos 0) ≡ sum binary64 false (n * up k * 1) true (C * 1 * down k) (down k * 1)
  unfolding sub add neg
  opened = refl

  -- x / (down k) = y / w, both in terms of what was taken from what
  same : (x y : ℕ) → x + C * 1 * down k ≡ n * up k * 1 → y + C * w ≡ μ → x * w ≡ y * (down k * 1)
  same x y e f =
      let a : (x + C * 1 * down k) * w ≡ n * up k * 1 * w = ap (λ (z : ℕ). z * w) e in
      let b : (y + C * w) * down k ≡ μ * down k = ap (λ (z : ℕ). z * down k) f in
      omega arith

  same' : (x y : ℕ) → x + n * up k * 1 ≡ C * 1 * down k → y + μ ≡ C * w → x * w ≡ y * (down k * 1)
  same' x y e f =
      let a : (x + n * up k * 1) * w ≡ C * 1 * down k * w = ap (λ (z : ℕ). z * w) e in
      let b : (y + μ) * down k ≡ C * w * down k = ap (λ (z : ℕ). z * down k) f in
      omega arith

  from : C * w ≤ μ → fin false n k ⊖ fin false C (pos 0) ≡ round binary64 false (gap μ (C * w)) w
  unfolding sum
  from h =
      let g : C * 1 * down k ≤ n * up k * 1 = le_of_mul-le-mul_right {k = w} (let z : C * w * down k ≤ μ * down k = mul-le-mul_right (down k) h in omega arith) P in
      opened ∙ rw (le-ltb (n * up k * 1) (C * 1 * down k) g)
      (round_same binary64 false (n * up k * 1 - C * 1 * down k) (down k * 1) (gap μ (C * w)) w (omega (arith, down_pos k)) P (same (n * up k * 1 - C * 1 * down k) (gap μ (C * w)) (omega arith) (omega arith)))

  below : μ < C * w → fin false n k ⊖ fin false C (pos 0) ≡ neg (round binary64 false (gap μ (C * w)) w)
  unfolding sum
  below h =
      let g : n * up k * 1 < C * 1 * down k = lt_of_mul-lt-mul_right w (let z : μ * down k < C * w * down k = mul-lt-mul_of_pos_right h (down_pos k) in omega arith) in
      opened ∙ rw (lt-ltb (n * up k * 1) (C * 1 * down k) g)
      (round_same binary64 true (C * 1 * down k - n * up k * 1) (down k * 1) (gap μ (C * w)) w (omega (arith, down_pos k)) P (same' (C * 1 * down k - n * up k * 1) (gap μ (C * w)) (omega arith) (omega arith))
      ∙ round_neg false (gap μ (C * w)) w)

  either : Dec (C * w ≤ μ) → fin false n k ⊖ fin false C (pos 0) ≡ turned (ltb μ (C * w)) (round binary64 false (gap μ (C * w)) w)
  either (yes h) = rw (le-ltb μ (C * w) h) (from h)
  either (no h) = let l = lt_of_not-le h in rw (lt-ltb μ (C * w) l) (below l)

pub difference : (x : Float) (μ w C : ℕ) → 0 < w → HasValue x false μ w → x ⊖ fin false C (pos 0) ≡ turned (ltb μ (C * w)) (round binary64 false (gap μ (C * w)) w)
difference nan μ w C P v = absurd v
difference (inf s) μ w C P v = absurd v
difference (fin true n k) μ w C P v = absurd (true≢false v.0)
difference (fin false n k) μ w C P v = either n k μ w C P v.1 (dec_le (C * w) μ)
