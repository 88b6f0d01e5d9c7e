-- A sum with 3 * 2^51 is rounded to a whole number, whose bits end the sum's pattern. Assumes nothing.
use mathlib.Core.Path.{◌≡◌, refl, sym, ap, ◌∙◌, subst}
use mathlib.Core.Bool.{Bool, true, false, not, cond}
use Prim.Native.Nat.{ℕ, zero, suc, ◌+◌, ◌-◌, ◌*◌, ◌/◌, ◌%◌, ◌^◌, ◌≤◌, ◌<◌}
use native.Mathlib.Nat.{le_trans, le_of_eq, lt_of_lt_of_le, mul-le-mul_right, mul-lt-mul_of_pos_right, mul_right_comm, mul-pos, mul-one, div-one, mul-div_cancel, le-div_iff_mul-le, div-lt_iff_lt-mul, add-mul-mod_self_left, mod-eq_of_lt, not-le_of_lt}
use native.Mathlib.Decide.{dec_le}
use native.Mathlib.Omega.{arith}
use lib.Dec.{T, lit<, lit≤}
use lib.IntN.{ℤ, pos}
use lib.Pow.{pow-add, pow_pos, pow_mono}
use lib.Ieee.{Float, nan, inf, fin, binary64, up, down, size, units, round, sum, add, to_bits, is_nan}
use lib.Ieee.Digits.{size-lt, size-le}
use lib.Ieee.Exact.{HasValue, units_val}
use lib.Ieee.Fits.{round_is, down_pos}
use lib.Ieee.Nearest.{closest, closest_same}
use borrow.Author.Tests.{lt-ltb}
use Rattle.pcm.specs.Sample.{twos_complement, signed}
use Rattle.pcm.proofs.NearestLaws.{closest_at_most, closest_more, closest_less}

-- ---- from 2^52 to 2^53 a fraction is rounded to a whole number

size_is : (n i j : ℕ) → j ≡ suc i → 2 ^ i ≤ n → n < 2 ^ j → size n ≡ j
size_is n i j e l u = go (dec_le (size n) i)
  where
    go : Dec (size n ≤ i) → size n ≡ j
    go (yes y) = absurd (not-le_of_lt (lt_of_lt_of_le (size-lt n) (pow_mono y)) l)
    go (no k) = omega (arith, size-le n j u)

module _ (a c : ℕ) (C : 0 < c) (low : 2 ^ 52 * c ≤ a) (high : a < 2 ^ 53 * c) where
  size_scaled : (l : ℕ) → size (a * 2 ^ l / c) ≡ 53 + l
  size_scaled l =
      size_is (a * 2 ^ l / c) (52 + l) (53 + l) (omega arith)
      ((le-div_iff_mul-le C).1 (subst (λ (z : ℕ). z * c ≤ a * 2 ^ l) (sym (pow-add 2 52 l)) (le_trans (le_of_eq (mul_right_comm (2 ^ 52) (2 ^ l) c)) (mul-le-mul_right (2 ^ l) low))))
      ((div-lt_iff_lt-mul C).1 (subst (λ (z : ℕ). a * 2 ^ l < z * c) (sym (pow-add 2 53 l)) (lt_of_lt_of_le (mul-lt-mul_of_pos_right high (pow_pos l)) (le_of_eq (mul_right_comm (2 ^ 53) c (2 ^ l))))))

  round_whole : round binary64 false a c ≡ units binary64 false (closest a c) 1074
  round_whole =
      round_is binary64 false a c
      ∙ rw (size_scaled 1074) (ap (λ (q : ℕ). units binary64 false q 1074) (closest_same (a * 2 ^ 1074) (c * 2 ^ 1074) a c (mul-pos C (pow_pos 1074)) C (scaled (2 ^ 1074))))
    where
      scaled : (p : ℕ) → a * p * c ≡ a * (c * p)
      scaled p = omega arith

-- ---- the pattern of a whole number from 2^52 to 2^53

-- x is a number, and its pattern is b
abbrev pub HasBits : Float → ℕ → Type 0
HasBits x b = T (not (is_nan x)) × (to_bits binary64 x ≡ b)

module _ (q : ℕ) (low : 2 ^ 52 ≤ q) (high : q < 2 ^ 53) where
  pattern : (n : ℕ) → n ≡ q * 2 ^ 1074 → 0 + (size n - 53) * 2 ^ 52 + n / 2 ^ (size n - 53) ≡ 1074 * 2 ^ 52 + q
  pattern n e =
      let s : size n ≡ 53 + 1074 = ap size (e ∙ sym (div-one (q * 2 ^ 1074))) ∙ size_scaled q 1 (lit< tt) (omega arith) (omega arith) 1074 in
      rw (s, e, mul-div_cancel q (pow_pos 1074)) refl

  value_bits : (x : Float) → HasValue x false (q * 2 ^ 1074) (2 ^ 1074) → HasBits x (1074 * 2 ^ 52 + q)
  unfolding to_bits is_nan
  value_bits nan v = absurd v
  value_bits (inf s) v = absurd v
  value_bits (fin true m e) v = absurd (let z : ◌≡◌ {A = ℕ} 0 1 = cc in omega arith)
  value_bits (fin false m e) v = (tt, pattern (m * up e * 2 ^ 1074 / down e) (ap (λ (z : ℕ). z / down e) v.1 ∙ mul-div_cancel (q * 2 ^ 1074) (down_pos e)))

  units_bits : HasBits (units binary64 false q 1074) (1074 * 2 ^ 52 + q)
  units_bits = value_bits (units binary64 false q 1074) (units_val binary64 false q 1074 (fits (2 ^ 1074) (pow_pos 1074)))
    where
      fits : (p : ℕ) → 0 < p → q * p < 2 ^ 1024 * p
      fits p P = mul-lt-mul_of_pos_right (lt_of_lt_of_le high (pow_mono {i = 53} {j = 1024} (lit≤ tt))) P

-- ---- the sum

-- 3 * 2^51
abbrev pub base : ℕ
base = 6755399441055744

-- base + n, and base - n below zero
abbrev pub offset : Bool → ℕ → ℕ
offset s n = cond s (base - n) (n + base)

rounded : (a c q : ℕ) → 0 < c → 2 ^ 52 * c ≤ a → a < 2 ^ 53 * c → closest a c ≡ q → 2 ^ 52 ≤ q → q < 2 ^ 53 → HasBits (round binary64 false a c) (1074 * 2 ^ 52 + q)
rounded a c q C l h k ql qh = rw (round_whole a c C l h, k) (units_bits q ql qh)

module _ (m : ℕ) (e : ℤ) (small : m * up e ≤ 2 ^ 50 * down e) where
  pub sum_bits : (s : Bool) → HasBits (add binary64 (fin s m e) (fin false 3 (pos 51))) (1074 * 2 ^ 52 + offset s (closest (m * up e) (down e)))
  unfolding add sum
  sum_bits false =
      let C = down_pos e in
      let n = closest_at_most (m * up e) (down e) C (2 ^ 50) small in
      rw (mul-one (m * up e), mul-one (down e))
      (rounded (m * up e + base * down e) (down e) (closest (m * up e) (down e) + base) C (omega arith) (omega arith) (closest_more (m * up e) (down e) C base refl) (omega arith) (omega arith))
  sum_bits true =
      let C = down_pos e in
      let n = closest_at_most (m * up e) (down e) C (2 ^ 50) small in
      let less : m * up e < base * down e = omega arith in
      rw (mul-one (m * up e), mul-one (down e), lt-ltb (m * up e) (base * down e) less)
      (rounded (base * down e - m * up e) (down e) (base - closest (m * up e) (down e)) C (omega arith) (omega arith) (closest_less (m * up e) (down e) C base refl (omega arith)) (omega arith) (omega arith))

-- ---- its lowest bits are n in two's complement

module _ (h : ℕ) (upto : h ≤ 50) where
  -- 2^51 is a multiple of 2^(h + 1)
  multiple : 2 ^ suc h * 2 ^ (50 - h) ≡ 2 ^ 51
  multiple = let k : suc h + (50 - h) ≡ 51 = omega arith in sym (pow-add 2 (suc h) (50 - h)) ∙ ap (λ (k : ℕ). 2 ^ k) k

  above : (p t n : ℕ) → p * t ≡ 2 ^ 51 → n < p → (1074 * 2 ^ 52 + (n + base)) % p ≡ n
  above p t n e h =
      let w : 1074 * 2 ^ 52 + (n + base) ≡ n + p * (2151 * t) = omega arith in
      ap (λ (z : ℕ). z % p) w ∙ add-mul-mod_self_left n p (2151 * t) ∙ mod-eq_of_lt h

  below : (p t n : ℕ) → p * t ≡ 2 ^ 51 → 0 < t → n < p → (1074 * 2 ^ 52 + (base - suc n)) % p ≡ p - suc n
  below p (suc t) n e T h =
      let w : 1074 * 2 ^ 52 + (base - suc n) ≡ p - suc n + p * (2151 * t + 2150) = omega arith in
      ap (λ (z : ℕ). z % p) w ∙ add-mul-mod_self_left (p - suc n) p (2151 * t + 2150) ∙ mod-eq_of_lt (omega arith)
  below p zero n e T h = absurd (omega arith)

  pub low_bits : (s : Bool) (n : ℕ) → n < 2 ^ suc h → (1074 * 2 ^ 52 + offset s n) % 2 ^ suc h ≡ twos_complement (suc h) (signed s n)
  low_bits false n l = above (2 ^ suc h) (2 ^ (50 - h)) n multiple l
  low_bits true zero l = above (2 ^ suc h) (2 ^ (50 - h)) zero multiple l
  low_bits true (suc n) l = below (2 ^ suc h) (2 ^ (50 - h)) n multiple (pow_pos (50 - h)) (omega arith)
