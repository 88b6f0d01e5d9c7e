-- Floats from zero up and their bit patterns: one pattern a float, in the order of their numbers. Assumes nothing.
use Rattle.std.proofs.Common.{◌≡◌, ℕ, zero, suc, ◌+◌, ◌-◌, ◌*◌, ◌/◌, ◌%◌, ◌^◌, ◌<◌, ◌≤◌, true, false, not, ◌&&◌, T, eqb, ltb, leb, ◌⊎◌, ℤ, sym, refl, ap, ◌∙◌, subst, inl, inr, le_trans, le_of_eq, lt_of_lt_of_le, le_of_suc-le-suc, lt_of_le_of_lt, lt_irrefl, mul-le-mul_right, mod-eq_of_lt, mul_assoc, div-lt_iff_lt-mul, eq-or-lt_of_le, mul-le-mul_left, mul-lt-mul_of_pos_right, mul-pos, lt_of_not-le, zero-mul, mul-one, sub-add_cancel, mul_right_comm, le-mul_of_pos_right, mul-div_cancel, arith, ltb→lt, pow_pos, pow_mono, pow-add, ne_eqb}
use native.Mathlib.Nat.{lt_of_mul-lt-mul_left, pow-succ', eq_of_mul-eq-mul_right}
use native.Mathlib.Decide.{dec_le}
use lib.Ieee.{Float, nan, inf, fin, binary64, fits, up, down, size, odd, of_fields, of_bits, to_bits, nan_bits}
use lib.Ieee.Bits.{of_bits-to_bits}
use lib.Ieee.Digits.{size-le}
use lib.Ieee.Exact.{HasValue, odd_sign}
use lib.Ieee.Fits.{and_r, down_pos, kept-lt}
use borrow.Author.Tests.{lt-leb}
use Rattle.number.proofs.BitLaws.{below_no_nan}
use Rattle.root.specs.Root.{units_of, from_zero}
use Rattle.root.specs.Parts.{pattern_units}
use Rattle.root.proofs.Whole.{neither_less}
use Rattle.root.proofs.Parts.{H, subnormal, normal, pow_lt_cancel}

-- the infinity's pattern: those below it are the numbers from zero up
abbrev pub INF : ℕ
INF = 9218868437227405312

-- ---- a number that is known as a fraction, in units
pub units_are : (x : Float) (a c u : ℕ) → 0 < c → HasValue x false a c → a * 2 ^ 1074 ≡ u * c → (units_of x ≡ u) × T (from_zero x)
unfolding units_of
units_are nan a c u p v e = absurd v
units_are (inf s) a c u p v e = absurd v
units_are (fin true m k) a c u p v e = absurd (let z : ◌≡◌ {A = ℕ} 0 1 = cc in omega arith)
units_are (fin false m k) a c u p v e = (ap (λ (z : ℕ). z / down k) cross ∙ mul-div_cancel u (down_pos k), tt)
  where
    turn : (n t d : ℕ) → n * t * d ≡ n * d * t
    turn n t d = omega arith

    cross : m * up k * 2 ^ 1074 ≡ u * down k
    cross =
        eq_of_mul-eq-mul_right c p (m * up k * 2 ^ 1074) (u * down k)
        (turn (m * up k) (2 ^ 1074) c ∙ ap (λ (z : ℕ). z * 2 ^ 1074) v.1 ∙ turn a (down k) (2 ^ 1074) ∙ ap (λ (z : ℕ). z * down k) e ∙ turn u c (down k))

-- ---- the number of a pattern
low_field : (t : ℕ) → HasValue (of_fields binary64 false 0 t) false t (2 ^ 1074)
unfolding of_fields
low_field t = subst (λ (z : ℕ). HasValue (odd 53 false t 0 1074) false z (2 ^ 1074)) (mul-one t) (odd_sign 53 false t 0 1074)

high_field : (x t : ℕ) → suc x < 2047 → HasValue (of_fields binary64 false (suc x) t) false ((H + t) * 2 ^ x) (2 ^ 1074)
unfolding of_fields
high_field x t h = rw (ne_eqb (suc x) 2047 (λ e. omega arith)) (odd_sign 53 false (H + t) x 1074)

pattern_fields : (b : ℕ) → b < INF → of_bits binary64 b ≡ of_fields binary64 false (b / H) (b % H)
unfolding of_bits
pattern_fields b h = rw (lt-leb 9223372036854775808 b (omega arith), mod-eq_of_lt {n = b} {m = 9223372036854775808} (omega arith)) refl

pub pattern_value : (b : ℕ) → b < INF → HasValue (of_bits binary64 b) false (pattern_units b) (2 ^ 1074)
pattern_value b h = subst (λ (z : Float). HasValue z false (pattern_units b) (2 ^ 1074)) (sym (pattern_fields b h)) (go (dec_le H b))
  where
    no_field : (b : ℕ) → b < H → (b / H ≡ 0) × (b % H ≡ b)
    no_field b h = (omega arith, omega arith)

    field : (b : ℕ) → H ≤ b → b / H ≡ suc (b / H - 1)
    field b h = omega arith

    go : Dec (H ≤ b) → HasValue (of_fields binary64 false (b / H) (b % H)) false (pattern_units b) (2 ^ 1074)
    go (no n) = let f = no_field b (lt_of_not-le n) in rw (f.0, f.1, subnormal b (lt_of_not-le n)) (low_field b)
    go (yes y) = rw (normal b y) (subst (λ (z : ℕ). HasValue (of_fields binary64 false z (b % H)) false ((H + b % H) * 2 ^ (b / H - 1)) (2 ^ 1074)) (sym (field b y)) (high_field (b / H - 1) (b % H) (omega arith)))

pub pattern_units_lem : (b : ℕ) → b < INF → (units_of (of_bits binary64 b) ≡ pattern_units b) × T (from_zero (of_bits binary64 b))
pattern_units_lem b h = units_are (of_bits binary64 b) (pattern_units b) (2 ^ 1074) (pattern_units b) (pow_pos 1074) (pattern_value b h) refl

pub no_nan : (b : ℕ) → b < INF → T (not (nan_bits binary64 b))
no_nan b h = let n : nan_bits binary64 b ≡ false = below_no_nan b (omega arith) in rw n tt

-- ---- the pattern of a number
-- a float is below 2 ^ 1024, so below 2 ^ 2098 units
size_below : (m : ℕ) (e : ℤ) → T (fits binary64 (fin false m e)) → m * up e * 2 ^ 1074 / down e < 2 ^ 2098
unfolding fits
size_below m e f = (div-lt_iff_lt-mul (down_pos e)).1 (scaled (m * up e) (down e) (2 ^ 1024) (2 ^ 1074) (pow_pos 1074) (under m f))
  where
    under : (m : ℕ) → T (fits binary64 (fin false m e)) → m * up e < 2 ^ 1024 * down e
    under zero f = rw (zero-mul (up e)) (mul-pos (pow_pos 1024) (down_pos e))
    under (suc m) f = ltb→lt (suc m * up e) (2 ^ 1024 * down e) (and_r (eqb (suc m % 2) 1 && ltb (suc m) (2 ^ 53) && leb (down e) (2 ^ 1074)) (ltb (suc m * up e) (2 ^ 1024 * down e)) f)

    scaled : (a d p q : ℕ) → 0 < q → a < p * d → a * q < p * q * d
    scaled a d p q w h = lt_of_lt_of_le (mul-lt-mul_of_pos_right h w) (le_of_eq (mul_right_comm p d q))

pub bits_below : (x : Float) → T (fits binary64 x) → T (from_zero x) → to_bits binary64 x < INF
unfolding to_bits
bits_below nan f z = absurd z
bits_below (inf s) f z = absurd z
bits_below (fin true m e) f z = absurd z
bits_below (fin false m e) f z = bound (m * up e * 2 ^ 1074 / down e) (size_below m e f)
  where
    bound : (n : ℕ) → n < 2 ^ 2098 → 0 + (size n - 53) * H + n / 2 ^ (size n - 53) < INF
    bound n h = sum (size n) (n / 2 ^ (size n - 53)) (size-le n 2098 h) (kept-lt 53 n)
      where
        sum : (s q : ℕ) → s ≤ 2098 → q < 2 ^ 53 → 0 + (s - 53) * H + q < INF
        sum s q a b = omega arith

pub bits_units : (x : Float) → T (fits binary64 x) → T (from_zero x) → units_of x ≡ pattern_units (to_bits binary64 x)
bits_units x f z = ap units_of (sym (of_bits-to_bits binary64 x f)) ∙ (pattern_units_lem (to_bits binary64 x) (bits_below x f z)).0

-- ---- the order: a later pattern is a larger number
pub pattern_order : (b c : ℕ) → b < c → pattern_units b < pattern_units c
pattern_order b c h = go (dec_le H b) (dec_le H c)
  where
    within : (e : ℕ) → c / H - 1 ≡ e → b / H - 1 ≡ e → H ≤ b → (H + b % H) * 2 ^ e < (H + c % H) * 2 ^ e
    within e p q l = mul-lt-mul_of_pos_right (omega arith) (pow_pos e)

    across : b / H < c / H → H ≤ b → (H + b % H) * 2 ^ (b / H - 1) < (H + c % H) * 2 ^ (c / H - 1)
    across l y =
        lt_of_lt_of_le (mul-lt-mul_of_pos_right {m = H + b % H} {n = H * 2} (omega arith) (pow_pos (b / H - 1)))
        (le_trans (le_of_eq (mul_assoc H 2 (2 ^ (b / H - 1)) ∙ ap (λ (z : ℕ). H * z) (sym (pow-add 2 1 (b / H - 1)))))
        (le_trans (mul-le-mul_left H (pow_mono {i = 1 + (b / H - 1)} {j = c / H - 1} (omega arith))) (mul-le-mul_right {m = H} {n = H + c % H} (2 ^ (c / H - 1)) (omega arith))))

    either : b / H ≤ c / H → (b / H ≡ c / H) ⊎ (b / H < c / H)
    either l = eq-or-lt_of_le l

    go : Dec (H ≤ b) → Dec (H ≤ c) → pattern_units b < pattern_units c
    go (no n) (no m) = rw (subnormal b (lt_of_not-le n), subnormal c (lt_of_not-le m)) h
    go (no n) (yes y) = rw (subnormal b (lt_of_not-le n), normal c y) (lt_of_lt_of_le (lt_of_not-le n) (le_trans (omega arith) (le-mul_of_pos_right (H + c % H) (pow_pos (c / H - 1)))))
    go (yes x) (no m) = absurd (let k = lt_of_not-le m in omega arith)
    go (yes x) (yes y) = rw (normal b x, normal c y) (elim (either (omega arith)) [
      | inl e ↦ subst (λ (z : ℕ). (H + b % H) * 2 ^ z < (H + c % H) * 2 ^ (c / H - 1)) (ap (λ (z : ℕ). z - 1) (sym e)) (within (c / H - 1) refl (ap (λ (z : ℕ). z - 1) e) x)
      | inr l ↦ across l x
    ])

-- so two floats of one number are one float
pub same_float : (x y : Float) → T (fits binary64 x) → T (from_zero x) → T (fits binary64 y) → T (from_zero y) → units_of x ≡ units_of y → x ≡ y
same_float x y fx zx fy zy e =
    sym (of_bits-to_bits binary64 x fx) ∙ ap (of_bits binary64) (one (to_bits binary64 x) (to_bits binary64 y) (sym (bits_units x fx zx) ∙ e ∙ bits_units y fy zy)) ∙ of_bits-to_bits binary64 y fy
  where
    not_less : (b c : ℕ) → pattern_units b ≡ pattern_units c → b < c → ⊥
    not_less b c e h = lt_irrefl (pattern_units c) (subst (λ (z : ℕ). z < pattern_units c) e (pattern_order b c h))

    one : (b c : ℕ) → pattern_units b ≡ pattern_units c → b ≡ c
    one b c e = neither_less (not_less b c e) (not_less c b (sym e))

-- ---- from 2 ^ 52 steps of 2 ^ i up, a float is a whole number of them
pub on_grid : (c i : ℕ) → H * 2 ^ i ≤ pattern_units c → (g : ℕ) × (pattern_units c ≡ g * 2 ^ i)
on_grid c i h = go (dec_le H c)
  where
    go : Dec (H ≤ c) → (g : ℕ) × (pattern_units c ≡ g * 2 ^ i)
    go (no n) = absurd (lt_irrefl H (lt_of_le_of_lt (le_trans (le-mul_of_pos_right H (pow_pos i)) (le_trans h (le_of_eq (subnormal c (lt_of_not-le n))))) (lt_of_not-le n)))
    go (yes y) =
        let u : H * 2 ^ i < H * 2 ^ suc (c / H - 1) = lt_of_le_of_lt (le_trans h (le_of_eq (normal c y))) (lt_of_lt_of_le (mul-lt-mul_of_pos_right {m = H + c % H} {n = H * 2} (omega arith) (pow_pos (c / H - 1))) (le_of_eq (mul_assoc H 2 (2 ^ (c / H - 1)) ∙ ap (λ (z : ℕ). H * z) (sym (pow-succ' 2 (c / H - 1)))))) in
        let k : i ≤ c / H - 1 = le_of_suc-le-suc (pow_lt_cancel i (suc (c / H - 1)) (lt_of_mul-lt-mul_left H u)) in
        ((H + c % H) * 2 ^ (c / H - 1 - i), normal c y ∙ ap (λ (z : ℕ). (H + c % H) * 2 ^ z) (sym (sub-add_cancel {n = c / H - 1} {m = i} k)) ∙ ap (λ (z : ℕ). (H + c % H) * z) (pow-add 2 (c / H - 1 - i) i) ∙ sym (mul_assoc (H + c % H) (2 ^ (c / H - 1 - i)) (2 ^ i)))
