-- A normal pattern b as 2 ^ (field b - 1023) times the number of part b, which is μ / 2 ^ 53, from 3/4 up and below 3/2. Assumes nothing.
use mathlib.Core.Path.{◌≡◌, sym, ap, ◌∙◌, subst}
use mathlib.Core.Bool.{false}
use Prim.Native.Nat.{ℕ, suc, ◌+◌, ◌-◌, ◌*◌, ◌/◌, ◌%◌, ◌^◌, ◌≤◌, ◌<◌}
use native.Mathlib.Nat.{lt_of_not-le, mul_assoc, pow-succ'}
use native.Mathlib.Decide.{dec_le}
use native.Mathlib.Omega.{arith}
use lib.Pow.{pow_pos}
use lib.Ieee.{binary64, of_bits}
use lib.Ieee.Exact.{HasValue}
use Rattle.root.specs.Parts.{pattern_units}
use Rattle.root.proofs.Parts.{H, normal}
use Rattle.root.proofs.Floats.{INF, pattern_value}
use Rattle.elementary.proofs.Patterns.{value_same}
use Rattle.logarithm.specs.Ln.{field, part}

-- 2 ^ 53
abbrev pub W : ℕ
W = 9007199254740992

-- ---- the ranges
pub field_range : (b : ℕ) → H ≤ b → b < INF → (1 ≤ field b) × (field b ≤ 2047)
unfolding field
field_range b h k = (omega arith, omega arith)

pub part_range : (b : ℕ) → (4604930618986332160 ≤ part b) × (part b < 4609434218613702656)
unfolding part field
part_range b = (omega arith, omega arith)

-- ---- the number
pub record Split (b μ : ℕ) : Type 0 where
  pub units : 2 * pattern_units b ≡ μ * 2 ^ (field b - 1)
  pub value : HasValue (of_bits binary64 (part b)) false μ W
  pub least : 3 * W ≤ 4 * μ
  pub most : 2 * μ < 3 * W

-- the digits are read in the pattern's own field, or in the next
module _ (b : ℕ) (h : H ≤ b) where
  same : b % H < 2251799813685248 → (field b ≡ b / H) × (part b ≡ 1023 * H + b % H)
  unfolding part field
  same l = (omega arith, omega arith)

  next : 2251799813685248 ≤ b % H → (field b - 1 ≡ suc (b / H - 1)) × (part b ≡ 1022 * H + b % H)
  unfolding part field
  next l = (omega arith, omega arith)

  at_part : (i μ : ℕ) → part b ≡ suc i * H + b % H → (H + b % H) * 2 ^ i * W ≡ μ * 2 ^ 1074 → HasValue (of_bits binary64 (part b)) false μ W
  at_part i μ e f =
      value_same (of_bits binary64 (part b)) false ((H + b % H) * 2 ^ i) (2 ^ 1074) μ W (pow_pos 1074) f
      (subst (λ (z : ℕ). HasValue (of_bits binary64 (part b)) false z (2 ^ 1074))
      (normal (part b) (omega (arith, part_range b)) ∙ ap (λ (z : ℕ). (H + z) * 2 ^ (part b / H - 1)) (rest i (part b) (b % H) e (omega arith)) ∙ ap (λ (z : ℕ). (H + b % H) * 2 ^ z) (above i (part b) (b % H) e (omega arith)))
      (pattern_value (part b) (omega (arith, part_range b))))
    where
      rest : (i p r : ℕ) → p ≡ suc i * H + r → r < H → p % H ≡ r
      rest i p r e l = omega arith

      above : (i p r : ℕ) → p ≡ suc i * H + r → r < H → p / H - 1 ≡ i
      above i p r e l = omega arith

  pub split : (μ : ℕ) × Split b μ
  split = go (dec_le 2251799813685248 (b % H))
    where
      twice : (n p : ℕ) → 2 * (n * p) ≡ n * (2 * p)
      twice n p = omega arith

      twice' : (n p : ℕ) → 2 * (n * p) ≡ 2 * n * p
      twice' n p = omega arith

      go : Dec (2251799813685248 ≤ b % H) → (μ : ℕ) × Split b μ
      go (yes l) = (
        H + b % H,
        record {
          units = ap (λ (z : ℕ). 2 * z) (normal b h) ∙ twice (H + b % H) (2 ^ (b / H - 1)) ∙ ap (λ (z : ℕ). (H + b % H) * z) (sym (pow-succ' 2 (b / H - 1)) ∙ ap (λ (z : ℕ). 2 ^ z) (sym (next l).0));
          value = at_part 1021 (H + b % H) (next l).1 (mul_assoc (H + b % H) (2 ^ 1021) W);
          least = omega arith;
          most = omega arith;
        },
      )
      go (no n) = let l = lt_of_not-le n in (
        2 * (H + b % H),
        record {
          units = ap (λ (z : ℕ). 2 * z) (normal b h) ∙ twice' (H + b % H) (2 ^ (b / H - 1)) ∙ ap (λ (z : ℕ). 2 * (H + b % H) * 2 ^ (z - 1)) (sym (same l).0);
          value = at_part 1022 (2 * (H + b % H)) (same l).1 (mul_assoc (H + b % H) (2 ^ 1022) W ∙ sym (twice (H + b % H) (2 ^ 1074)) ∙ twice' (H + b % H) (2 ^ 1074));
          least = omega arith;
          most = omega arith;
        },
      )
