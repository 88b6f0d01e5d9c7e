-- What the functions of the sum compute is what the definition says. Assumes nothing.
use Rattle.std.proofs.Common.{◌≡◌, ℕ, zero, suc, ◌-◌, ◌*◌, ◌/◌, ◌%◌, ◌^◌, ◌<◌, ◌≤◌, false, pos, negsuc, sym, refl, ap, ◌∙◌, subst, mod-eq_of_lt, one-mul, mul-one, arith, lit<, pow_pos, le-ltb, lt-ltb}
use native.Mathlib.Nat.{mul-div-mul_left, div-div-eq-div-mul}
use lib.Ieee.{Float, fin, binary64, mul, neg, round, of_int}
use lib.Ieee.Back.{round_whole}
use lib.Ieee.Exact.{HasValue}
use lib.Ieee.Positive.{mul_at, positive_of_value}
use Rattle.cosine.specs.Cos.{one, turn, alternating, fall_of, float_of, one_less, steps}
use Rattle.cosine.proofs.Value.{fall_is}
use Rattle.cosine.proofs.Answers.{square_most}

-- ---- products
-- 2 ^ 64 is 32 times 1: the factors are moved up by five bits in all
product_is : (a b x y h : ℕ) → x * y ≡ 32 * (a * b) → h ≡ x * y / 2 ^ 64 → h ≡ a * b / one
product_is a b x y h e f = f ∙ ap (λ (z : ℕ). z / 2 ^ 64) e ∙ mul-div-mul_left (a * b) one (lit< tt)

moved : (a b s t m n : ℕ) → a * s < m → b * t < m → s * t ≡ n → a * s % m * (b * t % m) ≡ n * (a * b)
moved a b s t m n h k e = ap (λ (z : ℕ). z * (b * t % m)) (mod-eq_of_lt h) ∙ ap (λ (z : ℕ). a * s * z) (mod-eq_of_lt k) ∙ turn ∙ ap (λ (z : ℕ). z * (a * b)) e
  where
    turn : a * s * (b * t) ≡ s * t * (a * b)
    turn = omega arith

pub times_is : (a p h : ℕ) → a ≤ 10 * one → p ≤ one → h ≡ a * 2 ^ 1 % 2 ^ 64 * (p * 2 ^ 4 % 2 ^ 64) / 2 ^ 64 → h ≡ a * p / one
times_is a p h A P e = product_is a p (a * 2 ^ 1 % 2 ^ 64) (p * 2 ^ 4 % 2 ^ 64) h (moved a p (2 ^ 1) (2 ^ 4) (2 ^ 64) 32 (omega arith) (omega arith) refl) e

pub square_is : (r h : ℕ) → 2 * r ≤ turn → h ≡ r * 2 ^ 2 % 2 ^ 64 * (r * 2 ^ 3 % 2 ^ 64) / 2 ^ 64 → h ≡ r * r / one
square_is r h R e = product_is r r (r * 2 ^ 2 % 2 ^ 64) (r * 2 ^ 3 % 2 ^ 64) h (moved r r (2 ^ 2) (2 ^ 3) (2 ^ 64) 32 (omega arith) (omega arith) refl) e

-- ---- a whole number times 2 ^ -51
pub over-2^51 : (m : ℕ) → m ≤ 2 ^ 53 → mul binary64 (of_int binary64 (pos m)) (fin false 1 (negsuc 50)) ≡ round binary64 false m (2 ^ 51)
unfolding mul of_int round
over-2^51 zero h = refl
over-2^51 (suc m) h =
    let v : HasValue (round binary64 false (suc m) 1) false (suc m) 1 = round_whole binary64 false (suc m) h in
    mul_at binary64 (round binary64 false (suc m) 1) (fin false 1 (negsuc 50)) (suc m) 1 1 (2 ^ 51) (positive_of_value (round binary64 false (suc m) 1) (suc m) 1 v (omega arith)) tt (lit< tt) (pow_pos 51) v (refl, refl)
    ∙ ap (λ (z : ℕ). round binary64 false z (1 * 2 ^ 51)) (mul-one (suc m)) ∙ ap (λ (z : ℕ). round binary64 false (suc m) z) (one-mul (2 ^ 51))

-- ---- the whole sum
pub small_square : (r a : ℕ) → 2 * r ≤ turn → a ≡ r * r / one → 400 * a ≤ 3969 * one
small_square r a h e = subst (λ (z : ℕ). 400 * z ≤ 3969 * one) (sym e) (square_most r (omega arith))

pub half_is : (a p t : ℕ) → t ≡ a * p / one → t / 2 ≡ a * p / (one * 2)
half_is a p t h = ap (λ (z : ℕ). z / 2) h ∙ div-div-eq-div-mul (a * p) one 2

pub fall_code : (r a p : ℕ) (y : Float) → a ≡ r * r / one → p ≡ alternating a 1 steps → y ≡ one_less (a * p / (one * 2)) → y ≡ one_less (fall_of r)
fall_code r a p y e f h =
    h ∙ ap one_less (ap (λ (z : ℕ). a * z / (one * 2)) f ∙ ap (λ (z : ℕ). z * alternating z 1 steps / (one * 2)) e ∙ sym (fall_is r))

pub one_less_below : (q f : ℕ) (y : Float) → f ≡ q → one < f → y ≡ float_of (f - one) → neg y ≡ one_less q
unfolding one_less
one_less_below q f y e h k = ap neg k ∙ subst (λ (z : ℕ). neg (float_of (f - one)) ≡ one_less z) e (rw (lt-ltb one f h) refl)

pub one_less_above : (q f : ℕ) (y : Float) → f ≡ q → f ≤ one → y ≡ float_of (one - f) → y ≡ one_less q
unfolding one_less
one_less_above q f y e h k = k ∙ subst (λ (z : ℕ). float_of (one - f) ≡ one_less z) e (rw (le-ltb one f h) refl)
