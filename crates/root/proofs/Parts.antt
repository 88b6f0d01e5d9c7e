-- The parts of a bit pattern: what its digits and its field stand for, and the power of two made even. Assumes nothing.
use Rattle.std.proofs.Common.{◌≡◌, ℕ, zero, suc, ◌+◌, ◌-◌, ◌*◌, ◌/◌, ◌%◌, ◌^◌, ◌<◌, ◌≤◌, sym, refl, ap, ◌∙◌, subst, le_trans, le_of_eq, lt_of_lt_of_le, lt_of_le_of_lt, mul-le-mul_right, mod-eq_of_lt, mul_assoc, add_comm, mul-le-mul_left, mul-lt-mul_of_pos_right, lt_of_not-le, mul-one, not-le_of_lt, arith, lit≤, pow_pos, pow_mono, pow-add, le-ltb, lt-ltb}
use native.Mathlib.Nat.{pow-succ'}
use lib.Count.{count_leading_zeros, leading_top}
use Rattle.root.specs.Parts.{pattern_units, Split}

-- 2 ^ 52, the weight of the exponent's field
abbrev pub H : ℕ
H = 4503599627370496

-- ---- a power of four
pub four_pow : (j : ℕ) → 4 ^ j ≡ 2 ^ j * 2 ^ j
four_pow zero = refl
four_pow (suc j) = pow-succ' 4 j ∙ ap (λ (z : ℕ). 4 * z) (four_pow j) ∙ go (2 ^ j) ∙ sym (ap (λ (z : ℕ). z * z) (pow-succ' 2 j))
  where
    go : (p : ℕ) → 4 * (p * p) ≡ 2 * p * (2 * p)
    go p = omega arith

pub pow_lt_cancel : (i j : ℕ) → 2 ^ i < 2 ^ j → i < j
pow_lt_cancel i j g = lt_of_not-le (λ q. not-le_of_lt g (pow_mono q))

-- one factor of two, or none
bit : (t : ℕ) → t < 2 → (1 ≤ 2 ^ t) × (2 ^ t ≤ 2)
bit zero h = (lit≤ tt, lit≤ tt)
bit (suc zero) h = (lit≤ tt, lit≤ tt)
bit (suc (suc t)) h = absurd (omega arith)

pub record Even (m k r : ℕ) : Type 0 where
  pub is : r * 4 ^ (k / 2) ≡ m * 2 ^ k
  pub least : H ≤ r
  pub most : r < 2 ^ 54

pub even_is : (m k : ℕ) → H ≤ m → m < 2 ^ 53 → Even m k ((m * 2 ^ (k % 2)) % 2 ^ 64)
even_is m k l u = subst (λ (z : ℕ). Even m k z) (sym (mod-eq_of_lt (lt_of_lt_of_le (small (2 ^ (k % 2)) b.1) (lit≤ tt)))) (record { is = is; least = large (2 ^ (k % 2)) b.0; most = small (2 ^ (k % 2)) b.1 })
  where
    b : (1 ≤ 2 ^ (k % 2)) × (2 ^ (k % 2) ≤ 2)
    b = bit (k % 2) (omega arith)

    small : (p : ℕ) → p ≤ 2 → m * p < 2 ^ 54
    small p h = lt_of_le_of_lt (mul-le-mul_left m h) (omega arith)

    large : (p : ℕ) → 1 ≤ p → H ≤ m * p
    large p h = le_trans l (le_trans (le_of_eq (sym (mul-one m))) (mul-le-mul_left m h))

    halves : (k : ℕ) → k % 2 + (k / 2 + k / 2) ≡ k
    halves k = omega arith

    is : m * 2 ^ (k % 2) * 4 ^ (k / 2) ≡ m * 2 ^ k
    is = mul_assoc m (2 ^ (k % 2)) (4 ^ (k / 2)) ∙ ap (λ (z : ℕ). m * (2 ^ (k % 2) * z)) (four_pow (k / 2) ∙ sym (pow-add 2 (k / 2) (k / 2))) ∙ ap (λ (z : ℕ). m * z) (sym (pow-add 2 (k % 2) (k / 2 + k / 2)) ∙ ap (λ (z : ℕ). 2 ^ z) (halves k))

-- ---- a pattern's number, below the normal ones and among them
pub subnormal : (b : ℕ) → b < H → pattern_units b ≡ b
unfolding pattern_units
subnormal b h = rw (lt-ltb b H h) refl

pub normal : (b : ℕ) → H ≤ b → pattern_units b ≡ (H + b % H) * 2 ^ (b / H - 1)
unfolding pattern_units
normal b h = rw (le-ltb b H h) refl

pub normal_split : (b m j : ℕ) → H ≤ b → m * 4 ^ j ≡ (b % H + H) * 2 ^ (b / H + 53) → H ≤ m → m < 2 ^ 54 → j ≤ 1050 → Split b m j
normal_split b m j h e l u f = record { is = is; least = l; most = u; few = f }
  where
    field : (b : ℕ) → H ≤ b → b / H - 1 + 54 ≡ b / H + 53
    field b h = omega arith

    is : pattern_units b * 2 ^ 54 ≡ m * 4 ^ j
    is = ap (λ (z : ℕ). z * 2 ^ 54) (normal b h) ∙ mul_assoc (H + b % H) (2 ^ (b / H - 1)) (2 ^ 54) ∙ ap (λ (z : ℕ). (H + b % H) * z) (sym (pow-add 2 (b / H - 1) 54) ∙ ap (λ (z : ℕ). 2 ^ z) (field b h)) ∙ ap (λ (z : ℕ). z * 2 ^ (b / H + 53)) (add_comm H (b % H)) ∙ sym e

-- the shift that brings a subnormal's first digit to the place of a normal's
pub record Shift (b : ℕ) : Type 0 where
  pub eleven : 11 ≤ count_leading_zeros 64 b
  pub small : count_leading_zeros 64 b - 11 ≤ 52
  pub least : H ≤ b * 2 ^ (count_leading_zeros 64 b - 11)
  pub most : b * 2 ^ (count_leading_zeros 64 b - 11) < 2 ^ 53

pub shift : (b : ℕ) → 1 ≤ b → b < H → Shift b
shift b p h = go (leading_top 64 b p (lt_of_lt_of_le h (lit≤ tt)))
  where
    go : (i : ℕ) × (count_leading_zeros 64 b + suc i ≡ 64) × (2 ^ i ≤ b) × (b < 2 ^ suc i) → Shift b
    go t =
        let i = t.0 in
        let l : i < 52 = pow_lt_cancel i 52 (lt_of_le_of_lt t.2 h) in
        let e : count_leading_zeros 64 b - 11 ≡ 52 - i = omega (arith, t.1) in
        let w : i + (52 - i) ≡ 52 = omega arith in
        let w' : suc i + (52 - i) ≡ 53 = omega arith in
        record {
          eleven = omega (arith, t.1);
          small = omega (arith, t.1);
          least = subst (λ (z : ℕ). H ≤ b * 2 ^ z) (sym e) (le_trans (le_of_eq (ap (λ (z : ℕ). 2 ^ z) (sym w) ∙ pow-add 2 i (52 - i))) (mul-le-mul_right (2 ^ (52 - i)) t.2));
          most = subst (λ (z : ℕ). b * 2 ^ z < 2 ^ 53) (sym e) (lt_of_lt_of_le (mul-lt-mul_of_pos_right t.3 (pow_pos (52 - i))) (le_of_eq (sym (pow-add 2 (suc i) (52 - i)) ∙ ap (λ (z : ℕ). 2 ^ z) w')));
        }

-- the shifted pattern is within 64 bits
pub shifted : (b : ℕ) → Shift b → (b * 2 ^ (count_leading_zeros 64 b - 11)) % 2 ^ 64 ≡ b * 2 ^ (count_leading_zeros 64 b - 11)
shifted b s = mod-eq_of_lt (lt_of_lt_of_le s.most (lit≤ tt))

pub subnormal_split : (b m j z : ℕ) → b < H → z ≤ 52 → m * 4 ^ j ≡ b * 2 ^ z * 2 ^ (54 - z) → H ≤ m → m < 2 ^ 54 → j ≤ 1050 → Split b m j
subnormal_split b m j z h k e l u f = record { is = is; least = l; most = u; few = f }
  where
    whole : (z : ℕ) → z ≤ 52 → z + (54 - z) ≡ 54
    whole z h = omega arith

    is : pattern_units b * 2 ^ 54 ≡ m * 4 ^ j
    is = ap (λ (w : ℕ). w * 2 ^ 54) (subnormal b h) ∙ sym (e ∙ mul_assoc b (2 ^ z) (2 ^ (54 - z)) ∙ ap (λ (w : ℕ). b * w) (sym (pow-add 2 z (54 - z)) ∙ ap (λ (w : ℕ). 2 ^ w) (whole z k)))
