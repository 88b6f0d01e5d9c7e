-- The branches of the definition: whether m is 1, and whether x is. Assumes nothing.
use mathlib.Core.Path.{◌≡◌, refl, sym, ap, ◌∙◌, subst}
use mathlib.Core.Bool.{Bool, true, false, ◌&&◌, true≢false}
use Prim.Native.Nat.{ℕ, zero, suc, ◌*◌, ◌^◌, ◌≤◌}
use native.Mathlib.Nat.{eq_of_mul-eq-mul_right}
use native.Mathlib.Omega.{arith}
use lib.IntN.{ℤ}
use lib.Dec.{T, eqb, eqb→eq, lit<}
use lib.Ieee.{Float, nan, inf, fin, binary64, fits, up, down, eq, of_bits, to_bits, of_int, sub, mul, neg}
use lib.Ieee.Bits.{of_bits-fits}
use lib.Ieee.Exact.{HasValue}
use lib.Ieee.Fits.{down_pos}
use lib.Ieee.Positive.{num, den, positive}
use borrow.Author.Tests.{eq-eqb, eqb-true, eqb-false}
use Rattle.number.specs.F64.{0f, 1f}
use Rattle.root.proofs.Floats.{units_are, same_float}
use Rattle.logarithm.specs.Ln.{field, part, turns, of_pattern}
use Rattle.logarithm.proofs.Pattern.{W}
use Rattle.logarithm.proofs.Difference.{gap}

-- ---- m = μ / 2 ^ 53 and 1
both : (b : Bool) → (b && true) ≡ b
both true = refl
both false = refl

opened : (n : ℕ) (k : ℤ) → eq (fin false n k) 1f ≡ eqb (n * up k * 1) (1 * 1 * down k)
unfolding eq of_bits
opened n k = both (eqb (n * up k * 1) (1 * 1 * down k))

pub at_one : (m : Float) (μ : ℕ) → HasValue m false μ W → eq m 1f ≡ true → gap μ W ≡ 0
at_one nan μ v e = absurd v
at_one (inf s) μ v e = absurd v
at_one (fin true n k) μ v e = absurd (true≢false v.0)
at_one (fin false n k) μ v e = let g : μ ≡ W = eq_of_mul-eq-mul_right (down k) (down_pos k) μ W (same (n * up k) (down k) v.1 (eqb-true (n * up k * 1) (1 * 1 * down k) (sym (opened n k) ∙ e))) in omega arith
  where
    same : (a d : ℕ) → a * W ≡ μ * d → a * 1 ≡ 1 * 1 * d → μ * d ≡ W * d
    same a d e f = omega arith

pub not_one : (m : Float) (μ : ℕ) → HasValue m false μ W → eq m 1f ≡ false → 1 ≤ gap μ W
not_one nan μ v e = absurd v
not_one (inf s) μ v e = absurd v
not_one (fin true n k) μ v e = absurd (true≢false v.0)
not_one (fin false n k) μ v e = go (gap μ W) (λ (z : gap μ W ≡ 0). eqb-false (n * up k * 1) (1 * 1 * down k) (sym (opened n k) ∙ e) (same (n * up k) (down k) v.1 (omega arith)))
  where
    same : (a d : ℕ) → a * W ≡ μ * d → μ ≡ W → a * 1 ≡ 1 * 1 * d
    same a d e f = let z : μ * d ≡ W * d = ap (λ (z : ℕ). z * d) f in omega arith

    go : (g : ℕ) → (g ≡ 0 → ⊥) → 1 ≤ g
    go zero h = absurd (h refl)
    go (suc g) h = omega arith

-- ---- x and 1
pub one_test : (x : Float) → T (positive x) → num x ≡ den x → T (eq x 1f)
one_test nan p e = absurd p
one_test (inf s) p e = absurd p
one_test (fin true n k) p e = absurd p
one_test (fin false n k) p e = subst T (sym (opened n k ∙ eq-eqb (n * up k * 1) (1 * 1 * down k) (same (n * up k) (down k) e))) tt
  where
    same : (a d : ℕ) → a ≡ d → a * 1 ≡ 1 * 1 * d
    same a d e = omega arith

one_value : HasValue 1f false 1 1
unfolding of_bits
one_value = (refl, refl)

pub one_only : (x : Float) → T (fits binary64 x) → T (positive x) → T (eq x 1f) → x ≡ 1f
one_only nan f p e = absurd p
one_only (inf s) f p e = absurd p
one_only (fin true n k) f p e = absurd p
one_only (fin false n k) f p e =
    let x = fin false n k in
    let v : HasValue x false 1 1 = (refl, same (n * up k) (down k) (eqb→eq (n * up k * 1) (1 * 1 * down k) (subst T (opened n k) e))) in
    let a = units_are x 1 1 (2 ^ 1074) (lit< tt) v refl in
    let b = units_are 1f 1 1 (2 ^ 1074) (lit< tt) one_value refl in
    same_float x 1f f a.1 (of_bits-fits binary64 0x3ff0_0000_0000_0000) b.1 (a.0 ∙ sym b.0)
  where
    same : (a d : ℕ) → a * 1 ≡ 1 * 1 * d → a * 1 ≡ 1 * d
    same a d e = omega arith

pub of_one : of_pattern (to_bits binary64 1f) ≡ 0f
unfolding of_pattern field part turns of_bits to_bits of_int sub mul neg eq
of_one = refl
