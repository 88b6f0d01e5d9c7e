-- From factors of 1 + 2 ^ -53 to the bounds of the definition: the values of floats above zero and of their powers as plain fractions. Assumes nothing.
use mathlib.Core.Path.{◌≡◌, refl, sym, ap, ◌∙◌, subst}
use mathlib.Core.Bool.{true, false}
use Prim.Native.Nat.{ℕ, zero, suc, ◌+◌, ◌-◌, ◌*◌, ◌^◌, ◌≤◌, ◌<◌}
use native.Mathlib.Nat.{le_of_mul-le-mul_left, le_dest, le_of_lt, lt_of_not-le, mul-le-mul_left, mul-le-mul_right, pow-zero, pow-suc, one-le-pow}
use native.Mathlib.Decide.{dec_le}
use native.Mathlib.Omega.{arith}
use lib.Dec.{T, lit<, lit≤}
use lib.Ieee.{Float, nan, inf, fin}
use lib.Ieee.Positive.{num, den, positive}
use Rattle.elementary.specs.Fraction.{Fraction, signed, whole, power, ◌×ᶠ◌}
use Rattle.elementary.specs.Band.{value_of, Within}
use Rattle.elementary.proofs.Ratio.{B, B⁺, Ratio}

-- n / d
abbrev plain : ℕ → ℕ → Fraction
plain n d = record { over = signed false n; under = d }

value_is : (x : Float) → T (positive x) → value_of x ≡ plain (num x) (den x)
value_is nan p = absurd p
value_is (inf s) p = absurd p
value_is (fin true m e) p = absurd p
value_is (fin false m e) p = refl

times_is : (n d m e : ℕ) → plain n d ×ᶠ plain m e ≡ plain (n * m) (d * e)
times_is n d m e = rw (over (n * m), none n m) refl
  where
    over : (z : ℕ) → z + 0 * 0 ≡ z
    over z = omega arith

    none : (n m : ℕ) → n * 0 + 0 * m ≡ 0
    none n m = omega arith

power_is : (n d s : ℕ) → power (plain n d) s ≡ plain (n ^ s) (d ^ s)
power_is n d zero = rw (pow-zero n, pow-zero d) refl
power_is n d (suc s) = ap (λ (w : Fraction). w ×ᶠ plain n d) (power_is n d s) ∙ times_is (n ^ s) (d ^ s) n d ∙ rw (pow-suc n s, pow-suc d s) refl

-- j factors, where they are together at most (K + 1) / K
cut : (x y b t K : ℕ) → 0 < b → x * b ≤ y * t → t * K ≤ b * (K + 1) → x * K ≤ y * (K + 1)
cut x y b t K p h k = le_of_mul-le-mul_left {k = b} (go (mul-le-mul_right K h) (mul-le-mul_left y k)) p
  where
    go : x * b * K ≤ y * t * K → y * (t * K) ≤ y * (b * (K + 1)) → b * (x * K) ≤ b * (y * (K + 1))
    go h k = omega arith

-- so the fraction differs from 1 by at most 1 / K
abbrev gap : ℕ → ℕ → ℕ
gap n d = (n * 1 + 0 * d) - (0 * 1 + 1 * d) + ((0 * 1 + 1 * d) - (n * 1 + 0 * d))

differ : (n d K : ℕ) → n * K ≤ d * (K + 1) → d * K ≤ n * (K + 1) → gap n d * K ≤ d * 1
differ n d K h k = go (dec_le n d)
  where
    below : (g : ℕ) → n + g ≡ d → gap n d * K ≤ d * 1
    below g e = let w : (n + g) * K ≡ d * K = ap (λ (z : ℕ). z * K) e in let q : gap n d ≡ g = omega arith in subst (λ (z : ℕ). z * K ≤ d * 1) (sym q) (omega arith)

    above : (g : ℕ) → d + g ≡ n → gap n d * K ≤ d * 1
    above g e = let w : (d + g) * K ≡ n * K = ap (λ (z : ℕ). z * K) e in let q : gap n d ≡ g = omega arith in subst (λ (z : ℕ). z * K ≤ d * 1) (sym q) (omega arith)

    go : Dec (n ≤ d) → gap n d * K ≤ d * 1
    go (yes l) = let g = le_dest l in below g.0 g.1
    go (no l) = let g = le_dest (le_of_lt (lt_of_not-le l)) in above g.0 g.1

-- n / d is within j factors of 1
within_one : (bits j n d : ℕ) → B⁺ ^ j * 2 ^ bits ≤ B ^ j * (2 ^ bits + 1) → Ratio j n d 1 1 → Within bits (plain n d) (whole false 1)
within_one bits j n d c r = differ n d (2 ^ bits) (cut n d (B ^ j) (B⁺ ^ j) (2 ^ bits) pos (trim n d r.hi) c) (cut d n (B ^ j) (B⁺ ^ j) (2 ^ bits) pos (trim' n d r.lo) c)
  where
    pos : 0 < B ^ j
    pos = one-le-pow j B (lit< tt)

    trim : (n d : ℕ) → n * 1 * B ^ j ≤ 1 * d * B⁺ ^ j → n * B ^ j ≤ d * B⁺ ^ j
    trim n d h = omega arith

    trim' : (n d : ℕ) → 1 * d * B ^ j ≤ n * 1 * B⁺ ^ j → d * B ^ j ≤ n * B⁺ ^ j
    trim' n d h = omega arith

-- ---- the two statements of the definition: r * a ^ s, and r ^ s * a
pub power_within : (r a : Float) (s : ℕ) → T (positive r) → T (positive a) → Ratio 8 (num r * num a ^ s) (den r * den a ^ s) 1 1 → Within 44 (value_of r ×ᶠ power (value_of a) s) (whole false 1)
power_within r a s p q h =
    subst (λ (w : Fraction). Within 44 w (whole false 1)) (sym (ap (λ (w : Fraction). w ×ᶠ power (value_of a) s) (value_is r p) ∙ ap (λ (w : Fraction). plain (num r) (den r) ×ᶠ w) (ap (λ (w : Fraction). power w s) (value_is a q) ∙ power_is (num a) (den a) s) ∙ times_is (num r) (den r) (num a ^ s) (den a ^ s)))
    (within_one 44 8 (num r * num a ^ s) (den r * den a ^ s) (lit≤ tt) h)

pub root_within : (r a : Float) (s : ℕ) → T (positive r) → T (positive a) → Ratio 24 (num r ^ s * num a) (den r ^ s * den a) 1 1 → Within 40 (power (value_of r) s ×ᶠ value_of a) (whole false 1)
root_within r a s p q h =
    subst (λ (w : Fraction). Within 40 w (whole false 1)) (sym (ap (λ (w : Fraction). w ×ᶠ value_of a) (ap (λ (w : Fraction). power w s) (value_is r p) ∙ power_is (num r) (den r) s) ∙ ap (λ (w : Fraction). plain (num r ^ s) (den r ^ s) ×ᶠ w) (value_is a q) ∙ times_is (num r ^ s) (den r ^ s) (num a) (den a)))
    (within_one 40 24 (num r ^ s * num a) (den r ^ s * den a) (lit≤ tt) h)
