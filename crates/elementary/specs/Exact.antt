-- "The four functions" of document 01: the exact values, where they are defined, and how near the answers are. Definitions only.
use Rattle.std.specs.Prelude.{◌≡◌, Bool, true, false, not, ◌&&◌, ℕ, ◌+◌, ◌-◌, ◌*◌, ◌/◌, ◌^◌, T, leb, Float, Result}
use Rattle.std.specs.Float.{nan, inf, binary64}
use Rattle.std.specs.Float.Ieee.{of_bits, lt, le, eq, is_nan, size as digits}
use Rattle.std.specs.Float.Ieee.Positive.{num, den, positive}
use Rattle.number.specs.F64.{0f, 1f, −◌}
use Rattle.number.specs.Range.{finite, is_within}
use Rattle.elementary.specs.Fraction.{Whole, Fraction, signed, size, negative, ◌+ᶠ◌, ◌−ᶠ◌, ◌×ᶠ◌, whole, two_to, power}
use Rattle.elementary.specs.Series.{series, factorial, even_factorial, odd_number}
use Rattle.elementary.specs.Band.{sign_of, value_of, Within, WithinOfIt, Says}
use Rattle.elementary.specs.declared.answer.Outside.{Outside}

-- ---- the constants, forty digits after the point
unfoldable pub ten40 : ℕ
ten40 = 10000000000000000000000000000000000000000

unfoldable pub L40 : ℕ
L40 = 6931471805599453094172321214581765680755

unfoldable pub P40 : ℕ
P40 = 31415926535897932384626433832795028841971

abbrev pub L : Fraction
L = record { over = signed false L40; under = ten40 }

abbrev pub P : Fraction
P = record { over = signed false P40; under = ten40 }

-- the size of the whole number nearest to a / c, and to -a / c where s is true: of two as near, the upper one
unfoldable pub nearest : Bool → (a c : ℕ) → ℕ
nearest false a c = (2 * a + c) / (2 * c)
nearest true a c = (2 * a + c - 1) / (2 * c)

-- one statement or another, by a test
abbrev pub If : Bool → Type 0 → Type 0 → Type 0
If true A B = A
If false A B = B

-- ---- exp: k is nearest to x / L and has x's sign, r = x - k * L
unfoldable pub exp_turns : Float → ℕ
unfolding nearest
exp_turns x = nearest (sign_of x) (num x * ten40) (den x * L40)

unfoldable pub exp_rest : Float → Fraction
unfolding exp_turns
exp_rest x = value_of x −ᶠ whole (sign_of x) (exp_turns x) ×ᶠ L

-- 2 ^ k times the sum of r ^ j / j!, j = 0 to 31
unfoldable pub exp_value : Float → Fraction
unfolding exp_turns exp_rest
exp_value x = two_to (sign_of x) (exp_turns x) ×ᶠ series factorial (exp_rest x) 31

-- 709 and 708
abbrev pub 709f : Float
709f = of_bits binary64 0x4086_2800_0000_0000

abbrev pub 708f : Float
708f = of_bits binary64 0x4086_2000_0000_0000

unfoldable pub ExpAnswer : Float → Float → Type 0
unfolding exp_value
ExpAnswer x y =
    If (is_nan x) (y ≡ nan)
    (If (lt 709f x) (y ≡ inf false)
    (If (lt x (− 708f)) (y ≡ 0f)
    ((T (eq x 0f) → y ≡ 1f) × T (positive y) × WithinOfIt 48 (value_of y) (exp_value x))))

-- ---- ln: x = 2 ^ k * m with 3/4 <= m < 3/2, so k + 1 is the number of binary digits before the point of 4/3 * x
unfoldable pub ln_exponent : Float → Whole
unfolding digits
ln_exponent x = record { plus = digits (4 * (num x * 2 ^ 1074) / (3 * den x)); minus = 1075 }

-- m = x / 2 ^ k
unfoldable pub ln_part : Float → Fraction
unfolding ln_exponent
ln_part x = value_of x ×ᶠ two_to (not (negative (ln_exponent x))) (size (ln_exponent x))

-- t = (m - 1) / (m + 1), for m = p / q: (p - q) / (p + q)
unfoldable pub ln_ratio : Float → Fraction
unfolding ln_part
ln_ratio x = let m = ln_part x in record { over = record { plus = m.over.plus; minus = m.under }; under = m.over.plus + m.under }

-- k * L plus twice the sum of t ^ (2 * j + 1) / (2 * j + 1), j = 0 to 31, which is t times the sum of (t * t) ^ j / (2 * j + 1)
unfoldable pub ln_value : Float → Fraction
unfolding ln_exponent ln_ratio
ln_value x = let t = ln_ratio x in record { over = ln_exponent x; under = 1 } ×ᶠ L +ᶠ whole false 2 ×ᶠ (t ×ᶠ series odd_number (t ×ᶠ t) 31)

-- positive, normal and finite
abbrev pub ln_inside : Float → Bool
ln_inside x = le (of_bits binary64 0x10_0000_0000_0000) x && finite x

unfoldable pub LnAnswer : Float → Result Float Outside → Type 0
unfolding ln_value
LnAnswer x = Says (ln_inside x) (λ y. (T (eq x 1f) → y ≡ 0f) × WithinOfIt 48 (value_of y) (ln_value x))

-- ---- cos: k is nearest to x / (2 * P) and has x's sign, r = x - 2 * k * P
unfoldable pub cos_turns : Float → ℕ
unfolding nearest
cos_turns x = nearest (sign_of x) (num x * ten40) (2 * (den x * P40))

unfoldable pub cos_rest : Float → Fraction
unfolding cos_turns
cos_rest x = value_of x −ᶠ whole false 2 ×ᶠ whole (sign_of x) (cos_turns x) ×ᶠ P

-- the sum of (-1) ^ j * r ^ (2 * j) / (2 * j)!, j = 0 to 31: of (- (r * r)) ^ j / (2 * j)!
unfoldable pub cos_value : Float → Fraction
unfolding cos_rest
cos_value x = let r = cos_rest x in series even_factorial (whole true 1 ×ᶠ (r ×ᶠ r)) 31

abbrev pub 2^20f : Float
2^20f = of_bits binary64 0x4130_0000_0000_0000

abbrev pub cos_inside : Float → Bool
cos_inside x = is_within x (− 2^20f) 2^20f

unfoldable pub CosAnswer : Float → Result Float Outside → Type 0
unfolding cos_value
CosAnswer x = Says (cos_inside x) (λ y. (T (eq x 0f) → y ≡ 1f) × Within 44 (value_of y) (cos_value x))

-- ---- power: a base from 2 ^ -120 to 2 ^ 120, a stage from 1 to 8
abbrev pub power_inside : Float → ℕ → Bool
power_inside a s = is_within a (of_bits binary64 0x3870_0000_0000_0000) (of_bits binary64 0x4770_0000_0000_0000) && leb 1 s && leb s 8

-- exponent -s: r * a ^ s differs from 1 by at most 2 ^ -44
unfoldable pub InversePower : Float → ℕ → Result Float Outside → Type 0
InversePower a s = Says (power_inside a s) (λ r. (T (eq a 1f) → r ≡ 1f) × T (positive r) × Within 44 (value_of r ×ᶠ power (value_of a) s) (whole false 1))

-- exponent -1 / s: r ^ s * a differs from 1 by at most 2 ^ -40
unfoldable pub InverseRoot : Float → ℕ → Result Float Outside → Type 0
InverseRoot a s = Says (power_inside a s) (λ r. (T (eq a 1f) → r ≡ 1f) × T (positive r) × Within 40 (power (value_of r) s ×ᶠ value_of a) (whole false 1))
