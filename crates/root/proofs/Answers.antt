-- The root of a pattern's number: what the definition makes of its parts, and the pattern that is the answer. Assumes nothing.
use Rattle.std.proofs.Common.{◌≡◌, ℕ, zero, suc, ◌+◌, ◌-◌, ◌*◌, ◌/◌, ◌%◌, ◌^◌, ◌<◌, ◌≤◌, false, T, ◌⊎◌, sym, ap, ◌∙◌, subst, inl, inr, le_of_eq, lt_of_lt_of_le, lt_of_le_of_lt, mul-le-mul_right, mul_assoc, lt-suc_self, mul-le-mul, lt_of_mul-lt-mul_right, eq-or-lt_of_le, mul-lt-mul_of_pos_right, mul-pos, lt_of_not-le, mul-one, arith, lit<, pow_pos, pow_mono, pow-add}
use native.Mathlib.Nat.{div-eq_of_eq-mul_left}
use native.Mathlib.Decide.{dec_le}
use lib.Pow.{pow-lt}
use lib.Count.{count_leading_zeros}
use lib.Ieee.{Float, binary64, fits, size, round, of_bits}
use lib.Ieee.Bits.{of_bits-fits}
use lib.Ieee.Digits.{size-lt, size_reaches}
use lib.Ieee.Exact.{HasValue, round_exact}
use lib.Ieee.Fits.{round-fits}
use Rattle.root.specs.Root.{nearest_root, units_of, root_of_units, from_zero}
use Rattle.root.specs.Parts.{pattern_units, Split, NearestTo}
use Rattle.root.proofs.Whole.{nearest_is, one_nearest}
use Rattle.root.proofs.Parts.{H, four_pow, pow_lt_cancel, even_is, normal, normal_split, Shift, shift, subnormal_split}
use Rattle.root.proofs.Floats.{INF, units_are, pattern_units_lem, same_float}

-- ---- every pattern above zero has its parts
pub parts_of : (b : ℕ) → 1 ≤ b → b < INF → (m : ℕ) × (j : ℕ) × Split b m j
parts_of b p h = go (dec_le H b)
  where
    go : Dec (H ≤ b) → (m : ℕ) × (j : ℕ) × Split b m j
    go (yes y) =
        let e = even_is (b % H + H) (b / H + 53) (omega arith) (omega arith) in
        (((b % H + H) * 2 ^ ((b / H + 53) % 2)) % 2 ^ 64, (b / H + 53) / 2, normal_split b (((b % H + H) * 2 ^ ((b / H + 53) % 2)) % 2 ^ 64) ((b / H + 53) / 2) y e.is e.least e.most (omega arith))
    go (no n) = low (shift b p (lt_of_not-le n))
      where
        low : Shift b → (m : ℕ) × (j : ℕ) × Split b m j
        low s =
            let z = count_leading_zeros 64 b - 11 in
            let e = even_is (b * 2 ^ z) (54 - z) s.least s.most in
            ((b * 2 ^ z * 2 ^ ((54 - z) % 2)) % 2 ^ 64, (54 - z) / 2, subnormal_split b ((b * 2 ^ z * 2 ^ ((54 - z) % 2)) % 2 ^ 64) ((54 - z) / 2) z (lt_of_not-le n) s.small e.is e.least e.most (omega arith))

-- ---- a root of 105 or 106 digits has 53, or is 2 ^ 53
pub root_least : (n r : ℕ) → H * H ≤ n → NearestTo n r → H ≤ r
root_least n r h a = go (dec_le H r)
  where
    go : Dec (H ≤ r) → H ≤ r
    go (yes y) = y
    go (no l) =
        let k : r ≤ 4503599627370495 = le_of_suc (lt_of_not-le l) in
        let x : r * r ≤ 4503599627370495 * 4503599627370495 = mul-le-mul k k in
        absurd (clash (r * r) x k a.high)
      where
        le_of_suc : r < H → r ≤ 4503599627370495
        le_of_suc h = omega arith

        clash : (q : ℕ) → q ≤ 4503599627370495 * 4503599627370495 → r ≤ 4503599627370495 → n ≤ q + r → ⊥
        clash q x k a = omega arith

pub root_most : (n r : ℕ) → n < 2 ^ 106 → NearestTo n r → r ≤ 2 ^ 53
root_most n r h a = go (dec_le r (2 ^ 53))
  where
    go : Dec (r ≤ 2 ^ 53) → r ≤ 2 ^ 53
    go (yes y) = y
    go (no l) = absurd (clash r (lt_of_not-le l) a.low)
      where
        clash : (r : ℕ) → 2 ^ 53 < r → r * r < n + r → ⊥
        clash zero k b = elim k [ ]
        clash (suc r) k b = let x : 9007199254740992 * 9007199254740992 ≤ r * r = mul-le-mul {n₁ = 9007199254740992} {m₁ = 9007199254740992} {n₂ = r} {m₂ = r} (omega arith) (omega arith) in omega arith

-- ---- the definition's own parts are those
module _ (b m j : ℕ) (s : Split b m j) where
  abbrev p : ℕ
  p = pattern_units b

  -- the number is m * 2 ^ (j + j), in the finer unit
  shown : p * 2 ^ 54 ≡ m * 2 ^ (j + j)
  shown = s.is ∙ ap (λ (z : ℕ). m * z) (four_pow j ∙ sym (pow-add 2 j j))

  above_zero : 0 < p
  above_zero = lt_of_mul-lt-mul_right (2 ^ 54) (subst (λ (z : ℕ). 0 * 2 ^ 54 < z) (sym shown) (mul-pos {m = m} {n = 2 ^ (j + j)} (lt_of_lt_of_le (lit< tt) s.least) (pow_pos (j + j))))

  half_digits : (size p + 1) / 2 ≡ j
  half_digits = half (size p) low high
    where
      half : (k : ℕ) → k ≤ j + j → j + j < k + 2 → (k + 1) / 2 ≡ j
      half k a b = omega arith

      -- 2 ^ (52 + (j + j)) is at most the number, which is below 2 ^ (size p + 54)
      high : j + j < size p + 2
      high = cut (pow_lt_cancel (52 + (j + j)) (size p + 54)
          (lt_of_le_of_lt (le_of_eq (pow-add 2 52 (j + j))) (lt_of_le_of_lt (mul-le-mul_right (2 ^ (j + j)) s.least) (lt_of_le_of_lt (le_of_eq (sym shown)) (lt_of_lt_of_le (mul-lt-mul_of_pos_right (size-lt p) (pow_pos 54)) (le_of_eq (sym (pow-add 2 (size p) 54))))))))
        where
          cut : 52 + (j + j) < size p + 54 → j + j < size p + 2
          cut h = omega arith

      low : size p ≤ j + j
      low = go (size p) (λ i l. size_reaches p i l)
        where
          go : (k : ℕ) → ((i : ℕ) → i < k → 2 ^ i ≤ p) → k ≤ j + j
          go zero f = omega arith
          go (suc k) f = cut (pow_lt_cancel (k + 54) (54 + (j + j))
              (lt_of_le_of_lt (le_of_eq (pow-add 2 k 54)) (lt_of_le_of_lt (mul-le-mul_right (2 ^ 54) (f k (lt-suc_self k))) (lt_of_le_of_lt (le_of_eq shown) (lt_of_lt_of_le (mul-lt-mul_of_pos_right s.most (pow_pos (j + j))) (le_of_eq (sym (pow-add 2 54 (j + j)))))))))
            where
              cut : k + 54 < 54 + (j + j) → suc k ≤ j + j
              cut h = omega arith

  whole_part : p * 2 ^ 106 / 4 ^ j ≡ m * 2 ^ 52
  whole_part = div-eq_of_eq-mul_left (subst (λ (z : ℕ). 0 < z) (sym (four_pow j)) (mul-pos (pow_pos j) (pow_pos j))) (sym (mul_assoc p (2 ^ 54) (2 ^ 52)) ∙ ap (λ (z : ℕ). z * 2 ^ 52) s.is ∙ turn m (4 ^ j) (2 ^ 52))
    where
      turn : (a b c : ℕ) → a * b * c ≡ a * c * b
      turn a b c = omega arith

  module _ (r : ℕ) (near : NearestTo (m * 2 ^ 52) r) where
    pub least : H ≤ r
    least = root_least (m * 2 ^ 52) r (omega (arith, s.least)) near

    pub most : r ≤ 2 ^ 53
    most = root_most (m * 2 ^ 52) r (omega (arith, s.most)) near

    pub root_is : root_of_units p ≡ round binary64 false (r * 2 ^ j) (2 ^ 590)
    unfolding root_of_units
    root_is =
        ap (λ (i : ℕ). round binary64 false (nearest_root (p * 2 ^ 106 / 4 ^ i) * 2 ^ i) (2 ^ 590)) half_digits
        ∙ ap (λ (n : ℕ). round binary64 false (nearest_root n * 2 ^ j) (2 ^ 590)) whole_part
        ∙ ap (λ (q : ℕ). round binary64 false (q * 2 ^ j) (2 ^ 590)) (one_nearest (m * 2 ^ 52) (nearest_root (m * 2 ^ 52)) r (nearest_is (m * 2 ^ 52) (omega (arith, s.least)) (omega (arith, s.most))) near)

    -- r has 53 digits, or is one power of two: nothing is rounded
    exact : HasValue (round binary64 false (r * 2 ^ j) (2 ^ 590)) false (r * 2 ^ j) (2 ^ 590)
    exact = go (eq-or-lt_of_le most)
      where
        grid : (q i : ℕ) → r ≡ q * 2 ^ i → r * 2 ^ j * 2 ^ 1074 ≡ q * 2 ^ (i + (j + 484)) * 2 ^ 590
        grid q i e =
            ap (λ (z : ℕ). z * 2 ^ j * 2 ^ 1074) e ∙ turn (2 ^ i) (2 ^ j) (2 ^ 484) (2 ^ 590)
            ∙ ap (λ (z : ℕ). q * z * 2 ^ 590) (sym (pow-add 2 i (j + 484) ∙ ap (λ (z : ℕ). 2 ^ i * z) (pow-add 2 j 484)))
          where
            turn : (x y z w : ℕ) → q * x * y * (z * w) ≡ q * (x * (y * z)) * w
            turn x y z w = omega arith

        fine : (q i : ℕ) → r ≡ q * 2 ^ i → q * 2 ^ (i + (j + 484)) < 2 ^ 2098
        fine q i e =
            lt_of_le_of_lt (le_of_eq (ap (λ (z : ℕ). q * z) (pow-add 2 i (j + 484)) ∙ sym (mul_assoc q (2 ^ i) (2 ^ (j + 484))) ∙ ap (λ (z : ℕ). z * 2 ^ (j + 484)) (sym e)))
            (lt_of_le_of_lt (mul-le-mul most (pow_mono {i = j + 484} {j = 1534} (omega (arith, s.few)))) (lt_of_le_of_lt (le_of_eq (sym (pow-add 2 53 1534))) (pow-lt {i = 1587} {j = 2098} (lit< tt))))

        go : (r ≡ 2 ^ 53) ⊎ (r < 2 ^ 53) → HasValue (round binary64 false (r * 2 ^ j) (2 ^ 590)) false (r * 2 ^ j) (2 ^ 590)
        go (inl e) = round_exact binary64 false (r * 2 ^ j) (2 ^ 590) 1 (53 + (j + 484)) (pow_pos 590) (lit< tt) (fine 1 53 e) (grid 1 53 e)
        go (inr l) = round_exact binary64 false (r * 2 ^ j) (2 ^ 590) r (0 + (j + 484)) (pow_pos 590) l (fine r 0 (sym (mul-one r))) (grid r 0 (sym (mul-one r)))

    pub root_units : (units_of (root_of_units p) ≡ r * 2 ^ (j + 484)) × T (from_zero (root_of_units p)) × T (fits binary64 (root_of_units p))
    root_units =
        let u = units_are (round binary64 false (r * 2 ^ j) (2 ^ 590)) (r * 2 ^ j) (2 ^ 590) (r * 2 ^ (j + 484)) (pow_pos 590) exact (scaled (2 ^ 484) (2 ^ 590) ∙ ap (λ (z : ℕ). r * z * 2 ^ 590) (sym (pow-add 2 j 484))) in
        subst (λ (z : Float). (units_of z ≡ r * 2 ^ (j + 484)) × T (from_zero z) × T (fits binary64 z)) (sym root_is) (u.0, u.1, round-fits binary64 false (r * 2 ^ j) (2 ^ 590))
      where
        scaled : (x y : ℕ) → r * 2 ^ j * (x * y) ≡ r * (2 ^ j * x) * y
        scaled x y = omega arith

    -- the pattern whose field is j + 485 and whose digits are r
    pub answer_below : (j + 484) * H + r < INF
    answer_below = omega (arith, s.few, most)

    answer_units : pattern_units ((j + 484) * H + r) ≡ r * 2 ^ (j + 484)
    answer_units = normal ((j + 484) * H + r) (omega (arith, least)) ∙ go (eq-or-lt_of_le most)
      where
        go : (r ≡ 2 ^ 53) ⊎ (r < 2 ^ 53) → (H + ((j + 484) * H + r) % H) * 2 ^ (((j + 484) * H + r) / H - 1) ≡ r * 2 ^ (j + 484)
        go (inr l) = ap (λ (z : ℕ). (H + z) * 2 ^ (((j + 484) * H + r) / H - 1)) (digits least l) ∙ ap (λ (z : ℕ). (H + (r - H)) * 2 ^ z) (field least l) ∙ ap (λ (z : ℕ). z * 2 ^ (j + 484)) (back least)
          where
            digits : H ≤ r → r < 2 ^ 53 → ((j + 484) * H + r) % H ≡ r - H
            digits a b = omega arith

            field : H ≤ r → r < 2 ^ 53 → ((j + 484) * H + r) / H - 1 ≡ j + 484
            field a b = omega arith

            back : H ≤ r → H + (r - H) ≡ r
            back a = omega arith
        go (inl e) = ap (λ (z : ℕ). (H + z) * 2 ^ (((j + 484) * H + r) / H - 1)) (digits e) ∙ ap (λ (z : ℕ). (H + 0) * 2 ^ z) (field e) ∙ ap (λ (z : ℕ). H * z) (pow-add 2 1 (j + 484)) ∙ sym (mul_assoc H 2 (2 ^ (j + 484))) ∙ ap (λ (z : ℕ). z * 2 ^ (j + 484)) (sym e)
          where
            digits : r ≡ 2 ^ 53 → ((j + 484) * H + r) % H ≡ 0
            digits e = omega arith

            field : r ≡ 2 ^ 53 → ((j + 484) * H + r) / H - 1 ≡ 1 + (j + 484)
            field e = omega arith

    pub answer_is : of_bits binary64 ((j + 484) * H + r) ≡ root_of_units p
    answer_is =
        let a = pattern_units_lem ((j + 484) * H + r) answer_below in
        same_float (of_bits binary64 ((j + 484) * H + r)) (root_of_units p) (of_bits-fits binary64 ((j + 484) * H + r)) a.1 root_units.2 root_units.1 (a.0 ∙ answer_units ∙ sym root_units.0)
