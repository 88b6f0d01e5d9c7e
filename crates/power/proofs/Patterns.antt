-- The numbers of the patterns that the root is made of, and of its base's. Assumes nothing.
use mathlib.Core.Path.{◌≡◌, refl, sym, ap, ◌∙◌, subst}
use mathlib.Core.Bool.{false}
use mathlib.Core.Logic.{◌⊎◌, inl, inr}
use Prim.Native.Nat.{ℕ, suc, ◌+◌, ◌-◌, ◌*◌, ◌/◌, ◌%◌, ◌^◌, ◌≤◌, ◌<◌}
use native.Mathlib.Nat.{mul_assoc, mul-pos, add_comm, eq-or-lt_of_le, pow-succ', le_of_mul-le-mul_right, le_trans, le_of_eq, mul-le-mul, mul-le-mul_left, mul-le-mul_right}
use native.Mathlib.Omega.{arith}
use lib.Dec.{T, lit<, lit≤}
use lib.Pow.{pow-add, pow_pos, pow_mono}
use lib.Ieee.{Float, binary64, fits, of_bits, to_bits}
use lib.Ieee.Exact.{HasValue}
use lib.Ieee.Positive.{num, den, den_pos, value→cross}
use Rattle.root.specs.Parts.{pattern_units}
use Rattle.root.proofs.Parts.{H, normal}
use Rattle.root.proofs.Floats.{pattern_value}
use Rattle.elementary.proofs.Patterns.{from_zero_lem, own_pattern, pattern_at_most}
use Rattle.elementary.proofs.Ratio.{B}
use Rattle.elementary.proofs.Rounding.{Close, close_of_value, close_to}
use Rattle.power.specs.Power.{half}
use Rattle.power.proofs.Base.{Base}

-- The digits m after the first one and the field f: with all digits, m = 2 ^ 52, it is the first number of the next field.
field_units : (f g m : ℕ) → f ≡ suc g → m ≤ H → pattern_units (m + f * H) ≡ (H + m) * 2 ^ g
field_units f g m e h = go (eq-or-lt_of_le h)
  where
    large : H ≤ m + f * H
    large = omega arith

    go : (m ≡ H) ⊎ (m < H) → pattern_units (m + f * H) ≡ (H + m) * 2 ^ g
    go (inr l) =
        let q : (m + f * H) % H ≡ m = omega arith in
        let d : (m + f * H) / H - 1 ≡ g = omega arith in
        normal (m + f * H) large ∙ rw (q, d) refl
    go (inl l) =
        let q : (m + f * H) % H ≡ 0 = omega arith in
        let d : (m + f * H) / H - 1 ≡ suc g = omega arith in
        normal (m + f * H) large ∙ rw (q, d, pow-succ' 2 g) (double (2 ^ g))
      where
        double : (p : ℕ) → (H + 0) * (2 * p) ≡ (H + m) * p
        double p = let w : m * p ≡ H * p = ap (λ (z : ℕ). z * p) l in omega arith

pub field_value : (f g m : ℕ) → f ≡ suc g → g < 2000 → m ≤ H → HasValue (of_bits binary64 (m + f * H)) false ((H + m) * 2 ^ g) (2 ^ 1074)
field_value f g m e l h = subst (λ (u : ℕ). HasValue (of_bits binary64 (m + f * H)) false u (2 ^ 1074)) (field_units f g m e h) (pattern_value (m + f * H) (omega arith))

-- the same number as a smaller fraction
lower : (z : Float) (n g c : ℕ) → 0 < n → 0 < c → 2 ^ g * c ≡ 2 ^ 1074 → HasValue z false (n * 2 ^ g) (2 ^ 1074) → Close 0 z n c
lower z n g c N C e v =
    close_to n c C (mul_assoc n (2 ^ g) c ∙ ap (λ (w : ℕ). n * w) e) (close_of_value z (n * 2 ^ g) (2 ^ 1074) (mul-pos N (pow_pos g)) v)

-- the digits of the root
pub half_close : (m : ℕ) → m ≤ H → Close 0 (half m) (H + m) B
half_close m h = lower (half m) (H + m) 1021 B (omega arith) (lit< tt) refl (subst (λ (z : ℕ). HasValue (of_bits binary64 z) false ((H + m) * 2 ^ 1021) (2 ^ 1074)) (add_comm m (1022 * H)) (field_value 1022 1021 m refl (lit< tt) h))

-- the number whose root is sought: the digits f and the exponent r
pub part_close : (f r : ℕ) → f ≤ H → r ≤ 8 → Close 0 (of_bits binary64 (f + (r + 1023) * H)) ((H + f) * 2 ^ r) H
part_close f r h l =
    lower (of_bits binary64 (f + (r + 1023) * H)) ((H + f) * 2 ^ r) 1022 H (mul-pos {m = H + f} {n = 2 ^ r} (omega arith) (pow_pos r)) (lit< tt) refl
    (subst (λ (z : ℕ). HasValue (of_bits binary64 (f + (r + 1023) * H)) false z (2 ^ 1074)) (ap (λ (z : ℕ). (H + f) * z) (pow-add 2 r 1022) ∙ sym (mul_assoc (H + f) (2 ^ r) (2 ^ 1022))) (field_value (r + 1023) (r + 1022) f (omega arith) (omega arith) h))

-- it is from 1 to 2 ^ s, where r is below s
pub part_least : (f r : ℕ) → H ≤ (H + f) * 2 ^ r
part_least f r = mul-le-mul {n₁ = H} {m₁ = 1} {n₂ = H + f} {m₂ = 2 ^ r} (omega arith) (pow_pos r)

pub part_most : (f r s : ℕ) → f ≤ H → r < s → (H + f) * 2 ^ r ≤ H * 2 ^ s
part_most f r s h l = le_trans (mul-le-mul_right {m = H + f} {n = H * 2} (2 ^ r) (omega arith)) (le_trans (le_of_eq (mul_assoc H 2 (2 ^ r) ∙ ap (λ (z : ℕ). H * z) (sym (pow-succ' 2 r)))) (mul-le-mul_left H (pow_mono {i = suc r} {j = s} (omega arith))))

-- ---- the base's own pattern
pub record Bits (a : Float) (b : ℕ) : Type 0 where
  pub least : 903 ≤ b / H
  pub most : b / H ≤ 1143
  pub value : num a * 2 ^ 1074 ≡ (H + b % H) * 2 ^ (b / H - 1) * den a

pub bits : (a : Float) (s : ℕ) → T (fits binary64 a) → Base a s → Bits a (to_bits binary64 a)
bits a s f k = go (to_bits binary64 a) (value→cross a (pattern_units (to_bits binary64 a)) (2 ^ 1074) (own_pattern a f (from_zero_lem a k.above)))
  where
    low : (u : ℕ) → num a * 2 ^ 1074 ≡ u * den a → 2 ^ 954 ≤ u
    low u e = le_of_mul-le-mul_right {k = den a} (le_trans (mul-le-mul_left (2 ^ 954) k.least) (le_of_eq (turn (num a) (2 ^ 954) (2 ^ 120) ∙ e))) (den_pos a)
      where
        turn : (n t u : ℕ) → t * (n * u) ≡ n * (t * u)
        turn n t u = omega arith

    high : (u : ℕ) → num a * 2 ^ 1074 ≡ u * den a → u ≤ 2 ^ 1194
    high u e = le_of_mul-le-mul_right {k = den a} (le_trans (le_of_eq (sym e)) (le_trans (mul-le-mul_right (2 ^ 1074) k.most) (le_of_eq (turn (den a) (2 ^ 120) (2 ^ 1074))))) (den_pos a)
      where
        turn : (d t u : ℕ) → d * t * u ≡ t * u * d
        turn d t u = omega arith

    go : (b : ℕ) → num a * 2 ^ 1074 ≡ pattern_units b * den a → Bits a b
    go b e =
        let l : 903 * H ≤ b = pattern_at_most (903 * H) b (le_trans (le_of_eq (field_units 903 902 0 refl (lit≤ tt))) (low (pattern_units b) e)) in
        let h : b ≤ 1143 * H = pattern_at_most b (1143 * H) (le_trans (high (pattern_units b) e) (le_of_eq (sym (field_units 1143 1142 0 refl (lit≤ tt))))) in
        record { least = omega arith; most = omega arith; value = e ∙ ap (λ (z : ℕ). z * den a) (normal b (omega arith)) }
