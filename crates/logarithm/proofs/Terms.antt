-- The last sum in floats, of two terms of either sign: the sign of the first, which is the larger, and their sum or difference. Assumes nothing.
use mathlib.Core.Path.{◌≡◌, refl, sym, ap, ◌∙◌}
use mathlib.Core.Bool.{Bool, true, false, not, true≢false}
use Prim.Native.Nat.{ℕ, ◌+◌, ◌-◌, ◌*◌, ◌<◌}
use native.Mathlib.Nat.{mul-pos}
use native.Mathlib.Omega.{arith}
use lib.IntN.{ℤ}
use lib.Dec.{T, ltb→lt}
use lib.Ieee.{Float, nan, inf, fin, binary64, up, down, round, sum, add, neg, of_bits}
use lib.Ieee.Fits.{up_pos, down_pos}
use lib.Ieee.Positive.{num, den, positive}
use lib.Ieee.Scale.{round_same}
use borrow.Author.Tests.{lt-ltb}
use Rattle.number.specs.F64.{◌⊕◌, ◌⊖◌, 0f}
use Rattle.elementary.proofs.Signs.{round_neg, add_neg_right, add_neg_left, add_neg_both, sub_swap}
use Rattle.elementary.proofs.FloatChain.{turned}

pub sum_like : (s r : Bool) (x y : Float) → s ≡ r → T (positive x) → T (positive y) → turned s x ⊕ turned r y ≡ turned s (x ⊕ y)
sum_like false false x y e p q = refl
sum_like false true x y e p q = absurd (true≢false (sym e))
sum_like true false x y e p q = absurd (true≢false e)
sum_like true true x y e p q = add_neg_both x y p q

pub sum_unlike : (s r : Bool) (x y : Float) → not s ≡ r → T (positive x) → T (positive y) → num y * den x < num x * den y → turned s x ⊕ turned r y ≡ turned s (x ⊖ y)
sum_unlike false false x y e p q h = absurd (true≢false e)
sum_unlike false true x y e p q h = add_neg_right x y
sum_unlike true false x y e p q h = add_neg_left x y ∙ sub_swap y x q p h
sum_unlike true true x y e p q h = absurd (true≢false (sym e))

-- +0 and a number: the number, rounded
module _ (n : ℕ) (d : ℤ) (p : T (positive (fin false n d))) where
  none : (u e : ℕ) → 0 < n → 0 < u → 0 * 1 * e < n * u * 1
  none u e N U = omega (arith, mul-pos N U)

  alone : (x : ℕ) → x ≡ n * up d → round binary64 false x (1 * down d) ≡ round binary64 false (n * up d) (down d)
  alone x e = round_same binary64 false x (1 * down d) (n * up d) (down d) (omega (arith, down_pos d)) (down_pos d) (ap (λ (z : ℕ). z * down d) e ∙ omega arith)

  with_above : 0f ⊕ fin false n d ≡ round binary64 false (n * up d) (down d)
  unfolding of_bits add sum
  with_above = alone (0 * 1 * down d + n * up d * 1) (omega arith)

  with_below : 0f ⊕ neg (fin false n d) ≡ neg (round binary64 false (n * up d) (down d))
  unfolding of_bits add sum neg
  with_below =
      rw (lt-ltb (0 * 1 * down d) (n * up d * 1) (none (up d) (down d) (ltb→lt 0 n p) (up_pos d)))
      (round_neg false (n * up d * 1 - 0 * 1 * down d) (1 * down d) ∙ ap neg (alone (n * up d * 1 - 0 * 1 * down d) (omega arith)))

pub sum_none : (s : Bool) (y : Float) → T (positive y) → 0f ⊕ turned s y ≡ turned s (round binary64 false (num y) (den y))
sum_none s nan p = absurd p
sum_none s (inf t) p = absurd p
sum_none s (fin true n d) p = absurd p
sum_none false (fin false n d) p = with_above n d p
sum_none true (fin false n d) p = with_below n d p
