-- The exact reduction of a normal x, of pattern b: the definition's k is field b - 1023, and its m is the fraction μ / 2 ^ 53 of the pattern's split. Assumes nothing.
use mathlib.Core.Path.{◌≡◌, refl, sym, ap, ◌∙◌, subst}
use mathlib.Core.Bool.{Bool, true, false, not}
use Prim.Native.Nat.{ℕ, suc, ◌+◌, ◌-◌, ◌*◌, ◌/◌, ◌^◌, ◌≤◌, ◌<◌}
use native.Mathlib.Nat.{le_trans, le_of_eq, lt_of_lt_of_le, lt_of_not-le, le_antisymm, not-le_of_lt, mul-pos, mul-le-mul_right, mul-lt-mul_of_pos_right, le-div_iff_mul-le, div-lt_iff_lt-mul, eq_of_mul-eq-mul_right}
use native.Mathlib.Decide.{dec_le}
use native.Mathlib.Omega.{arith}
use lib.Dec.{T}
use lib.Pow.{pow-add, pow_pos, pow_mono}
use lib.Ieee.{Float, nan, inf, fin, size as digits}
use lib.Ieee.Digits.{size-lt, size-le}
use lib.Ieee.Positive.{num, den, den_pos, positive}
use borrow.Author.Tests.{lt-ltb, le-ltb}
use Rattle.elementary.specs.Fraction.{Whole, signed, two_to, negative, size, ◌×ʷ◌}
use Rattle.elementary.specs.Band.{sign_of}
use Rattle.elementary.specs.Exact.{ln_exponent, ln_part}
use Rattle.logarithm.proofs.Pattern.{W}

-- how many digits a number has
size_is : (n j : ℕ) → 2 ^ j ≤ n → n < 2 ^ suc j → digits n ≡ suc j
size_is n j l u = le_antisymm (size-le n (suc j) u) (lt_of_not-le (λ (g : digits n ≤ j). not-le_of_lt (lt_of_lt_of_le (size-lt n) (pow_mono g)) l))

-- x is u units and 2 * u is μ * 2 ^ e, so that 4/3 * x has e + 53 digits before the point, in units
digits_is : (a d u μ e L : ℕ) → 0 < d → a * L ≡ u * d → 2 * u ≡ μ * 2 ^ e → 3 * W ≤ 4 * μ → 2 * μ < 3 * W → digits (4 * (a * L) / (3 * d)) ≡ suc (e + 52)
digits_is a d u μ e L D x y l h =
    size_is (4 * (a * L) / (3 * d)) (e + 52)
    ((le-div_iff_mul-le D3).1 (le_trans (le_of_eq (ap (λ (z : ℕ). z * (3 * d)) (pow-add 2 e 52))) (low (2 ^ e) y)))
    ((div-lt_iff_lt-mul D3).1 (lt_of_lt_of_le (high (2 ^ e) (pow_pos e) y) (le_of_eq (sym (ap (λ (z : ℕ). z * (3 * d)) (ap (λ (z : ℕ). 2 ^ z) (sym (suc_is e)) ∙ pow-add 2 e 53))))))
  where
    D3 : 0 < 3 * d
    D3 = omega arith

    suc_is : (e : ℕ) → e + 53 ≡ suc (e + 52)
    suc_is e = omega arith

    low : (p : ℕ) → 2 * u ≡ μ * p → p * 4503599627370496 * (3 * d) ≤ 4 * (a * L)
    low p y =
        let f : 2 * u * d ≡ μ * p * d = ap (λ (z : ℕ). z * d) y in
        let g : 3 * W * (p * d) ≤ 4 * μ * (p * d) = mul-le-mul_right (p * d) l in
        omega arith

    high : (p : ℕ) → 0 < p → 2 * u ≡ μ * p → 4 * (a * L) < p * W * (3 * d)
    high p P y =
        let f : 2 * u * d ≡ μ * p * d = ap (λ (z : ℕ). z * d) y in
        let g : 2 * μ * (p * d) < 3 * W * (p * d) = mul-lt-mul_of_pos_right h (mul-pos P D) in
        omega arith

sign_of_lem : (x : Float) → T (positive x) → sign_of x ≡ false
sign_of_lem nan p = absurd p
sign_of_lem (inf s) p = absurd p
sign_of_lem (fin true m e) p = absurd p
sign_of_lem (fin false m e) p = refl

-- ---- the definitions, at an x of u units
module _ (x : Float) (u μ F : ℕ) (v : num x * 2 ^ 1074 ≡ u * den x) (F⁺ : 1 ≤ F) (y : 2 * u ≡ μ * 2 ^ (F - 1)) (l : 3 * W ≤ 4 * μ) (h : 2 * μ < 3 * W) where
  pub exponent_is : ln_exponent x ≡ record { plus = F + 52; minus = 1075 }
  unfolding ln_exponent
  exponent_is = ap (λ (z : ℕ). record { plus = z; minus = 1075 }) (digits_is (num x) (den x) u μ (F - 1) (2 ^ 1074) (den_pos x) v y l h ∙ omega arith)

  -- x is μ / 2 ^ 53 times 2 ^ (F - 1) / 2 ^ 1022
  pub doubled : num x * (W * 2 ^ 1022) ≡ μ * 2 ^ (F - 1) * den x
  doubled = twice (num x) (2 ^ 1074) (den x) (2 ^ (F - 1)) v y
    where
      twice : (n t d q : ℕ) → n * t ≡ u * d → 2 * u ≡ μ * q → n * (2 * t) ≡ μ * q * d
      twice n t d q f g = let z : 2 * u * d ≡ μ * q * d = ap (λ (z : ℕ). z * d) g in omega arith

  -- m is μ / 2 ^ 53
  pub part_cross : T (positive x) → ((ln_part x).over.plus * W ≡ μ * (ln_part x).under) × (0 < (ln_part x).under)
  unfolding ln_part
  part_cross p = subst (Form (sign_of x)) (sym exponent_is) (subst (λ (s : Bool). Form s (record { plus = F + 52; minus = 1075 })) (sym (sign_of_lem x p)) (go (dec_le 1023 F)))
    where
      Form : Bool → Whole → Type 0
      Form s k = let w = two_to (not (negative k)) (size k) in ((signed s (num x) ×ʷ w.over).plus * W ≡ μ * (den x * w.under)) × (0 < den x * w.under)

      up : (n d t q : ℕ) → 0 < t → n * (W * t) ≡ μ * (q * t) * d → (n * 1 + 0 * 0) * W ≡ μ * (d * q)
      up n d t q P f = eq_of_mul-eq-mul_right t P ((n * 1 + 0 * 0) * W) (μ * (d * q)) (omega arith)

      down : (n d t q c : ℕ) → 0 < t → q * c ≡ t → n * (W * t) ≡ μ * q * d → (n * c + 0 * 0) * W ≡ μ * (d * 1)
      down n d t q c P e f =
          let z : n * (W * t) * c ≡ μ * q * d * c = ap (λ (z : ℕ). z * c) f in
          let w : q * c * (μ * d) ≡ t * (μ * d) = ap (λ (z : ℕ). z * (μ * d)) e in
          eq_of_mul-eq-mul_right t P ((n * c + 0 * 0) * W) (μ * (d * 1)) (omega arith)

      go : Dec (1023 ≤ F) → Form false (record { plus = F + 52; minus = 1075 })
      go (yes g) =
          let k = F + 52 - 1075 + (1075 - (F + 52)) in
          let e : F - 1 ≡ k + 1022 = omega arith in
          rw (le-ltb (F + 52) 1075 (omega arith))
          (up (num x) (den x) (2 ^ 1022) (2 ^ k) (pow_pos 1022) (doubled ∙ ap (λ (z : ℕ). μ * z * den x) (ap (λ (z : ℕ). 2 ^ z) e ∙ pow-add 2 k 1022)), mul-pos (den_pos x) (pow_pos k))
      go (no n) =
          let k = F + 52 - 1075 + (1075 - (F + 52)) in
          let j : F < 1023 = lt_of_not-le n in
          let e : F - 1 + k ≡ 1022 = omega arith in
          rw (lt-ltb (F + 52) 1075 (omega arith))
          (down (num x) (den x) (2 ^ 1022) (2 ^ (F - 1)) (2 ^ k) (pow_pos 1022) (sym (pow-add 2 (F - 1) k) ∙ ap (λ (z : ℕ). 2 ^ z) e) doubled, mul-pos {m = den x} {n = 1} (den_pos x) (omega arith))
