-- A float inside and its bits, the sign aside: what `rest_of` hands on; and the answers. Assumes nothing.
use Rattle.std.specs.Prelude.{Ok, Err}
use Rattle.std.proofs.Common.{◌≡◌, ℕ, ◌*◌, ◌/◌, ◌%◌, ◌^◌, ◌≤◌, Bool, true, false, ◌&&◌, T, ℤ, sym, refl, ap, ◌∙◌, true≢false, le_trans, le_of_eq, mul-le-mul_right, le_of_mul-le-mul_right, arith, pow_pos}
use lib.Ieee.{Float, nan, inf, fin, binary64, fits, up, down, le, neg, of_bits, to_bits}
use lib.Ieee.Fits.{down_pos}
use lib.Ieee.Nearest.{div_same}
use Rattle.root.specs.Parts.{pattern_units}
use Rattle.elementary.specs.Exact.{cos_inside}
use Rattle.elementary.proofs.Patterns.{size_cross, pattern_at_most}
use Rattle.cosine.specs.Both.{both_of}
use Rattle.cosine.specs.Cos.{units_of, rest_of, fall_of, one_less, cos_inside_of, answer, cos_of}
use Rattle.cosine.proofs.Pattern.{top_units}
use Rattle.cosine.proofs.Meets.{inside_bound, opened}

-- ---- the bits without the sign have the size's number
module _ (s : Bool) (m : ℕ) (e : ℤ) (f : T (fits binary64 (fin s m e))) where
  abbrev b : ℕ
  b = to_bits binary64 (fin s m e) % 2 ^ 63

  cross : m * up e * 2 ^ 1074 ≡ pattern_units b * down e
  cross = size_cross s m e f

  units_same : m * up e * 2 ^ 59 / down e ≡ pattern_units b * 2 ^ 59 / 2 ^ 1074
  units_same = div_same (m * up e * 2 ^ 59) (down e) (pattern_units b * 2 ^ 59) (2 ^ 1074) (down_pos e) (pow_pos 1074) (go (m * up e) (2 ^ 59) (2 ^ 1074) (pattern_units b) (down e) cross)
    where
      go : (a t l p d : ℕ) → a * l ≡ p * d → a * t * l ≡ p * t * d
      go a t l p d h = omega (arith, ap (λ (z : ℕ). z * t) h)

  bits_most : m * up e ≤ 2 ^ 20 * down e → b ≤ 0x4130_0000_0000_0000
  bits_most h = pattern_at_most b 0x4130_0000_0000_0000 (le_trans most (le_of_eq (sym top_units)))
    where
      turn : (x y z : ℕ) → x * y * z ≡ x * z * y
      turn x y z = omega arith

      most : pattern_units b ≤ 2 ^ 1094
      most = le_of_mul-le-mul_right (le_trans (le_of_eq (sym cross)) (le_trans (mul-le-mul_right (2 ^ 1074) h) (le_of_eq (turn (2 ^ 20) (down e) (2 ^ 1074))))) (down_pos e)

-- ---- of a float inside
pub inside_bits : (x : Float) → T (fits binary64 x) → T (cos_inside x) → to_bits binary64 x % 2 ^ 63 ≤ 0x4130_0000_0000_0000
unfolding le neg of_bits
inside_bits nan f h = absurd h
inside_bits (inf true) f h = absurd h
inside_bits (inf false) f h = absurd h
inside_bits (fin s m e) f h = bits_most s m e f (inside_bound (fin s m e) h)

inside_units : (x : Float) → T (fits binary64 x) → T (cos_inside x) → pattern_units (to_bits binary64 x % 2 ^ 63) * 2 ^ 59 / 2 ^ 1074 ≡ units_of x
unfolding units_of le neg of_bits
inside_units nan f h = absurd h
inside_units (inf true) f h = absurd h
inside_units (inf false) f h = absurd h
inside_units (fin s m e) f h = sym (units_same s m e f)

pub inside_rest : (x : Float) → T (fits binary64 x) → T (cos_inside x) → rest_of (pattern_units (to_bits binary64 x % 2 ^ 63) * 2 ^ 59 / 2 ^ 1074) ≡ rest_of (units_of x)
inside_rest x f h = ap rest_of (inside_units x f h)

-- ---- the two answers
pub chosen : (x : Float) → cos_inside x ≡ true → Ok (cos_inside_of x) ≡ cos_of x
unfolding cos_of
chosen x t = ap (λ (b : Bool). answer b (cos_inside_of x)) (sym t)

pub answer_inside : (x : Float) (r : ℕ) (y : Float) → cos_inside x ≡ true → r ≡ rest_of (units_of x) → y ≡ one_less (fall_of r) → Ok y ≡ cos_of x
answer_inside x r y h e k = ap Ok (k ∙ ap (λ (z : ℕ). one_less (fall_of z)) e ∙ opened x) ∙ chosen x h

pub answer_outside : (x : Float) → cos_inside x ≡ false → Err (record {}) ≡ cos_of x
unfolding cos_of
answer_outside x t = ap (λ (b : Bool). answer b (cos_inside_of x)) (sym t)

-- ---- of two
pub both_inside : (s t : Bool) → s && t ≡ true → (s ≡ true) × (t ≡ true)
both_inside true t h = (refl, h)
both_inside false t h = absurd (true≢false (sym h))

pub both_outside : (x y : Float) → cos_inside x && cos_inside y ≡ false → Err (record {}) ≡ both_of (cos_of x) (cos_of y)
both_outside x y h = go (cos_inside x) (cos_inside y) refl refl h
  where
    go : (s t : Bool) → cos_inside x ≡ s → cos_inside y ≡ t → s && t ≡ false → Err (record {}) ≡ both_of (cos_of x) (cos_of y)
    go false t e f h = rw (← answer_outside x e) refl
    go true false e f h = rw (← chosen x e, ← answer_outside y f) refl
    go true true e f h = absurd (true≢false h)
