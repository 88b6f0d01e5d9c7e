-- A bit pattern's number in units of 2 ^ -n: its digits, moved by as many places as its field says. Assumes nothing.
use Rattle.std.proofs.Common.{◌≡◌, ℕ, ◌+◌, ◌-◌, ◌*◌, ◌/◌, ◌%◌, ◌^◌, ◌<◌, ◌≤◌, ◌⊎◌, sym, refl, ap, ◌∙◌, subst, inl, inr, le_trans, le_of_eq, lt_of_lt_of_le, lt_of_le_of_lt, le_of_lt, mul-le-mul_right, mod-eq_of_lt, mul_assoc, mul_comm, add_comm, eq-or-lt_of_le, mul-lt-mul_of_pos_right, lt_of_not-le, mul-one, div-le_self, mul-div_cancel, arith, lit<, lit≤, pow_pos, pow_mono, pow-add}
use native.Mathlib.Nat.{div-div-eq-div-mul, mul-div-mul_right, div-le_of_le-mul, mul-div-mul_left, div-eq_of_lt}
use native.Mathlib.Decide.{dec_le}
use Rattle.root.specs.Parts.{pattern_units}
use Rattle.root.proofs.Parts.{H, subnormal, normal}
use Rattle.root.proofs.Floats.{pattern_order}
use Rattle.cosine.specs.Cos.{one}

-- the digits, with the first, and the power of two
module _ (b n : ℕ) where
  abbrev digits : ℕ
  digits = b % H + H

  abbrev power : ℕ
  power = b / H - 1 + n

  scaled : H ≤ b → pattern_units b * 2 ^ n ≡ digits * 2 ^ power
  scaled h =
      ap (λ (z : ℕ). z * 2 ^ n) (normal b h) ∙ mul_assoc (H + b % H) (2 ^ (b / H - 1)) (2 ^ n) ∙ ap (λ (z : ℕ). (H + b % H) * z) (sym (pow-add 2 (b / H - 1) n)) ∙ ap (λ (z : ℕ). z * 2 ^ power) (add_comm H (b % H))

  pub moved_up : 1075 ≤ b / H + n → n ≤ 59 → pattern_units b * 2 ^ n / 2 ^ 1074 ≡ digits * 2 ^ (b / H + n - 1075)
  moved_up h k =
      ap (λ (z : ℕ). z / 2 ^ 1074) (scaled (omega arith) ∙ ap (λ (z : ℕ). digits * 2 ^ z) places ∙ ap (λ (z : ℕ). digits * z) (pow-add 2 (b / H + n - 1075) 1074) ∙ sym (mul_assoc digits (2 ^ (b / H + n - 1075)) (2 ^ 1074)))
      ∙ mul-div_cancel (digits * 2 ^ (b / H + n - 1075)) (pow_pos 1074)
    where
      places : b / H - 1 + n ≡ b / H + n - 1075 + 1074
      places = omega arith

  pub moved_down : b / H + n < 1075 → 1 ≤ b / H → pattern_units b * 2 ^ n / 2 ^ 1074 ≡ digits / 2 ^ (1075 - (b / H + n))
  moved_down h k =
      ap (λ (z : ℕ). z / 2 ^ 1074) (scaled (omega arith) ∙ mul_comm digits (2 ^ power)) ∙ ap (λ (z : ℕ). 2 ^ power * digits / z) (ap (λ (z : ℕ). 2 ^ z) places ∙ pow-add 2 power (1075 - (b / H + n)))
      ∙ mul-div-mul_left digits (2 ^ (1075 - (b / H + n))) (pow_pos power)
    where
      places : 1074 ≡ b / H - 1 + n + (1075 - (b / H + n))
      places = omega arith

  pub vanished : b / H + n + 64 ≤ 1075 → n ≤ 59 → pattern_units b * 2 ^ n / 2 ^ 1074 ≡ 0
  vanished h k = go (dec_le H b)
    where
      go : Dec (H ≤ b) → pattern_units b * 2 ^ n / 2 ^ 1074 ≡ 0
      go (yes y) = moved_down (omega arith) (omega arith) ∙ div-eq_of_lt (lt_of_lt_of_le {n = digits} {m = 2 ^ 53} (omega arith) (pow_mono {i = 53} {j = 1075 - (b / H + n)} (omega arith)))
      go (no m) =
          let l = lt_of_not-le m in
          div-eq_of_lt (subst (λ (z : ℕ). z * 2 ^ n < 2 ^ 1074) (sym (subnormal b l)) (lt_of_lt_of_le (mul-lt-mul_of_pos_right l (pow_pos n)) (le_trans (le_of_eq (sym (pow-add 2 52 n))) (pow_mono {i = 52 + n} {j = 1074} (omega arith)))))

  -- so few digits are within a word
  pub word_of_digits : (d : ℕ) → digits / 2 ^ d < 2 ^ 64
  word_of_digits d = lt_of_le_of_lt (div-le_self digits (2 ^ d)) (omega arith)

-- ---- up to 2 ^ 20
pub top_units : pattern_units 0x4130_0000_0000_0000 ≡ 2 ^ 1094
unfolding pattern_units
top_units = refl

pub units_most : (b : ℕ) → b ≤ 0x4130_0000_0000_0000 → pattern_units b * 2 ^ 59 / 2 ^ 1074 ≤ 2 ^ 79
units_most b h = div-le_of_le-mul (2 ^ 1074) (le_trans (mul-le-mul_right (2 ^ 59) (le_trans (most (eq-or-lt_of_le h)) (le_of_eq top_units))) (lit≤ tt))
  where
    most : (b ≡ 0x4130_0000_0000_0000) ⊎ (b < 0x4130_0000_0000_0000) → pattern_units b ≤ pattern_units 0x4130_0000_0000_0000
    most (inl e) = le_of_eq (ap pattern_units e)
    most (inr l) = le_of_lt (pattern_order b 0x4130_0000_0000_0000 l)

-- the whole part, from the number itself and from its units of 2 ^ -59
pub whole_part : (b w : ℕ) → b ≤ 0x4130_0000_0000_0000 → w ≡ pattern_units b * 2 ^ 0 / 2 ^ 1074 % 2 ^ 64 → w ≡ pattern_units b * 2 ^ 59 / 2 ^ 1074 / one
whole_part b w h e = e ∙ ap (λ (z : ℕ). z % 2 ^ 64) same ∙ mod-eq_of_lt (small (pattern_units b * 2 ^ 59 / 2 ^ 1074) (units_most b h))
  where
    small : (u : ℕ) → u ≤ 2 ^ 79 → u / one < 2 ^ 64
    small u h = omega arith

    same : pattern_units b * 2 ^ 0 / 2 ^ 1074 ≡ pattern_units b * 2 ^ 59 / 2 ^ 1074 / one
    same = ap (λ (z : ℕ). z / 2 ^ 1074) (mul-one (pattern_units b)) ∙ sym (div-div-eq-div-mul (pattern_units b * 2 ^ 59) (2 ^ 1074) one ∙ mul-div-mul_right (pattern_units b) (2 ^ 1074) (lit< tt))
