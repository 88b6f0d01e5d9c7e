-- A float between two others, all three finite and above zero; sums, products and differences keep such bounds, since rounding keeps the order. Assumes nothing.
use mathlib.Core.Path.{◌≡◌, ap}
use Prim.Native.Nat.{ℕ, ◌+◌, ◌-◌, ◌*◌, ◌≤◌, ◌<◌}
use native.Mathlib.Nat.{mul-pos, mul-le-mul_right, mul-lt-mul_of_pos_right, lt_of_mul-lt-mul_left, sub-add_cancel}
use native.Mathlib.Omega.{arith}
use lib.Dec.{T}
use lib.Ieee.{Float, binary64, of_bits, le}
use lib.Ieee.Order.{round_mono}
use lib.Ieee.Positive.{num, den, den_pos, positive, between, le→cross, le_trans_positive, mul_mono, sub_anti}
use Rattle.number.specs.F64.{◌⊕◌, ◌⊖◌, ◌⊗◌, −◌, 1f}
use Rattle.elementary.proofs.Signs.{sub_swap}
use Rattle.elementary.proofs.Weighted.{add_is, sub_is}

pub record Between (low x high : Float) : Type 0 where
  pub first : T (positive low)
  pub own : T (positive x)
  pub last : T (positive high)
  pub least : T (le low x)
  pub most : T (le x high)

-- what lies between is finite and above zero too
pub within : {low x high : Float} → T (positive low) → T (positive high) → T (le low x) → T (le x high) → Between low x high
within {low} {x} {high} p q l m = record { first = p; own = between low x high p q l m; last = q; least = l; most = m }

-- ends further out
pub wider : {a x b : Float} (low high : Float) → T (positive low) → T (positive high) → T (le low a) → T (le b high) → Between a x b → Between low x high
wider {a} {x} {b} low high p q l m X =
    within p q (le_trans_positive low a x p X.first X.own l X.least) (le_trans_positive x b high X.own X.last q X.most m)

-- ---- a product grows with each factor
pub mul_between : {a x b c y d : Float} → Between a x b → Between c y d → T (positive (a ⊗ c)) → T (positive (b ⊗ d)) → Between (a ⊗ c) (x ⊗ y) (b ⊗ d)
mul_between {a} {x} {b} {c} {y} {d} X Y p q =
    within p q (mul_mono binary64 a x c y X.first X.own Y.first Y.own X.least Y.least) (mul_mono binary64 x b y d X.own X.last Y.own Y.last X.most Y.most)

-- ---- a sum grows with each term
add_mono : (x x' y y' : Float) → T (positive x) → T (positive x') → T (positive y) → T (positive y') → T (le x x') → T (le y y') → T (le (x ⊕ y) (x' ⊕ y'))
add_mono x x' y y' p p' q q' h k =
    rw (add_is x y p q, add_is x' y' p' q')
    (round_mono binary64 (num x * den y + num y * den x) (den x * den y) (num x' * den y' + num y' * den x') (den x' * den y') (mul-pos (den_pos x) (den_pos y)) (mul-pos (den_pos x') (den_pos y'))
    (cross (num x) (den x) (num x') (den x') (num y) (den y) (num y') (den y') (le→cross x x' p p' h) (le→cross y y' q q' k)))
  where
    cross : (a c a' c' b d b' d' : ℕ) → a * c' ≤ a' * c → b * d' ≤ b' * d → (a * d + b * c) * (c' * d') ≤ (a' * d' + b' * c') * (c * d)
    cross a c a' c' b d b' d' h k = omega (arith, mul-le-mul_right (d * d') h, mul-le-mul_right (c * c') k)

pub add_between : {a x b c y d : Float} → Between a x b → Between c y d → T (positive (a ⊕ c)) → T (positive (b ⊕ d)) → Between (a ⊕ c) (x ⊕ y) (b ⊕ d)
add_between {a} {x} {b} {c} {y} {d} X Y p q =
    within p q (add_mono a x c y X.first X.own Y.first Y.own X.least Y.least) (add_mono x b y d X.own X.last Y.own Y.last X.most Y.most)

-- ---- x - y grows with x, from y on
sub_mono : (x x' y : Float) → T (positive x) → T (positive x') → T (positive y) → T (le y x) → T (le x x') → T (le (x ⊖ y) (x' ⊖ y))
sub_mono x x' y p p' q l h =
    let f = le→cross y x q p l in
    let g = le→cross y x' q p' (le_trans_positive y x x' q p p' l h) in
    rw (sub_is x y p q f, sub_is x' y p' q g)
    (round_mono binary64 (num x * den y - num y * den x) (den x * den y) (num x' * den y - num y * den x') (den x' * den y) (mul-pos (den_pos x) (den_pos y)) (mul-pos (den_pos x') (den_pos y))
    (cross (num x) (den x) (num x') (den x') (num y) (den y) (num x * den y - num y * den x) (num x' * den y - num y * den x') (sub-add_cancel f) (sub-add_cancel g) (le→cross x x' p p' h)))
  where
    cross : (a c a' c' b d e e' : ℕ) → e + b * c ≡ a * d → e' + b * c' ≡ a' * d → a * c' ≤ a' * c → e * (c' * d) ≤ e' * (c * d)
    cross a c a' c' b d e e' f g h =
        omega (arith, ap (λ (z : ℕ). z * (c' * d)) f, ap (λ (z : ℕ). z * (c * d)) g, mul-le-mul_right (d * d) h)

one_above : T (positive 1f)
unfolding of_bits
one_above = tt

-- a number from 1 up, less 1
pub less_one : {a x b : Float} → Between a x b → T (le 1f a) → T (positive (a ⊖ 1f)) → T (positive (b ⊖ 1f)) → Between (a ⊖ 1f) (x ⊖ 1f) (b ⊖ 1f)
less_one {a} {x} {b} X l p q =
    within p q (sub_mono a x 1f X.first X.own one_above l X.least) (sub_mono x b 1f X.own X.last one_above (le_trans_positive 1f a x one_above X.first X.own l X.least) X.most)

-- 1 less a number up to 1
pub one_less : {a x b : Float} → Between a x b → T (le b 1f) → T (positive (1f ⊖ b)) → T (positive (1f ⊖ a)) → Between (1f ⊖ b) (1f ⊖ x) (1f ⊖ a)
one_less {a} {x} {b} X l p q =
    within p q (sub_anti binary64 1f x b one_above X.own X.last X.most l) (sub_anti binary64 1f a x one_above X.first X.own X.least (le_trans_positive x b 1f X.own X.last one_above X.most l))

-- below 1 a difference from 1 is the other one, its sign turned
pub below_one : {a x b : Float} → Between a x b → num b * den 1f < num 1f * den b → x ⊖ 1f ≡ − (1f ⊖ x)
below_one {a} {x} {b} X k = sub_swap x 1f X.own one_above (strictly (num x) (den x) (num b) (den b) (num 1f) (den 1f) (den_pos x) (le→cross x b X.own X.last X.most) k)
  where
    strictly : (n d n' d' e f : ℕ) → 0 < d → n * d' ≤ n' * d → n' * f < e * d' → n * f < e * d
    strictly n d n' d' e f D h k = lt_of_mul-lt-mul_left d' (omega (arith, mul-le-mul_right f h, mul-lt-mul_of_pos_right k D))
