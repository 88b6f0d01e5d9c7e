-- A fraction between a - b and a + b rounds to a, where both of these do. Assumes nothing.
use mathlib.Core.Path.{◌≡◌, refl, sym, ap, ◌∙◌}
use mathlib.Core.Bool.{true, false}
use Prim.Native.Nat.{ℕ, ◌+◌, ◌-◌, ◌*◌, ◌^◌, ◌≤◌, ◌<◌}
use native.Mathlib.Nat.{le_antisymm, le_of_lt, mul-pos, mul-le-mul_right, eq_of_mul-eq-mul_right}
use native.Mathlib.Omega.{arith}
use lib.Dec.{T}
use lib.Pow.{pow_pos}
use lib.Ieee.{Float, nan, inf, fin, binary64, fits, round, le, to_bits}
use lib.Ieee.Fits.{round-fits}
use lib.Ieee.Order.{round_mono}
use lib.Ieee.Positive.{num, den, den_pos, positive, above, above_of_le, between, own_value, value→cross, le→cross, le_trans_positive}
use Rattle.number.specs.F64.{◌⊕◌, ◌⊖◌}
use Rattle.root.specs.Parts.{pattern_units}
use Rattle.root.proofs.Floats.{units_are, same_float}
use Rattle.elementary.proofs.Patterns.{from_zero_lem, own_pattern, value_same}
use Rattle.elementary.proofs.Weighted.{add_is, sub_is}

-- ---- two floats of which neither is larger are one

one_number : (x y : Float) → T (fits binary64 x) → T (fits binary64 y) → T (positive x) → T (positive y) → T (le x y) → T (le y x) → x ≡ y
one_number x y fx fy px py h k =
    let p = pattern_units (to_bits binary64 x) in
    let vx = own_pattern x fx (from_zero_lem x px) in
    let same : num x * den y ≡ num y * den x = le_antisymm (le→cross x y px py h) (le→cross y x py px k) in
    let own : num y * 2 ^ 1074 ≡ p * den y = eq_of_mul-eq-mul_right (den x) (den_pos x) (num y * 2 ^ 1074) (p * den y) (turn (num x) (den x) (num y) (den y) (2 ^ 1074) p same (value→cross x p (2 ^ 1074) vx)) in
    let vy = value_same y false (num y) (den y) p (2 ^ 1074) (den_pos y) own (own_value y py) in
    let ux = units_are x p (2 ^ 1074) p (pow_pos 1074) vx refl in
    let uy = units_are y p (2 ^ 1074) p (pow_pos 1074) vy refl in
    same_float x y fx ux.1 fy uy.1 (ux.0 ∙ sym uy.0)
  where
    turn : (a c b d t p : ℕ) → a * d ≡ b * c → a * t ≡ p * c → b * t * c ≡ p * d * c
    turn a c b d t p e f = omega (arith, ap (λ (z : ℕ). z * t) e, ap (λ (z : ℕ). z * d) f)

-- ---- between the two

-- what is not above a number that is not above a positive one is finite
finite_below : (x y a : Float) → T (above x) → T (le x y) → T (le y a) → T (positive a) → T (positive x)
unfolding le
finite_below nan y a p h k q = absurd p
finite_below (inf true) y a p h k q = absurd p
finite_below (inf false) nan a p h k q = absurd h
finite_below (inf false) (inf true) a p h k q = absurd h
finite_below (inf false) (inf false) nan p h k q = absurd k
finite_below (inf false) (inf false) (inf t) p h k q = absurd q
finite_below (inf false) (inf false) (fin t n d) p h k q = absurd k
finite_below (inf false) (fin t n d) a p h k q = absurd h
finite_below (fin true m e) y a p h k q = absurd p
finite_below (fin false m e) y a p h k q = p

module _ (a b : Float) (fa : T (fits binary64 a)) (pa : T (positive a)) (pb : T (positive b)) (less : num b * den a < num a * den b) (up : T (le (a ⊕ b) a)) (down : T (le a (a ⊖ b))) where
  -- x / c is at least a - b, and at most a + b
  pub squeezed : (x c : ℕ) → 0 < c → (num a * den b - num b * den a) * c ≤ x * (den a * den b) → x * (den a * den b) ≤ (num a * den b + num b * den a) * c
      → round binary64 false x c ≡ a
  squeezed x c C low high =
      let D : 0 < den a * den b = mul-pos (den_pos a) (den_pos b) in
      let z = round binary64 false x c in
      let lo : T (le (a ⊖ b) z) = rw (sub_is a b pa pb (le_of_lt less)) (round_mono binary64 (num a * den b - num b * den a) (den a * den b) x c D C low) in
      let hi : T (le z (a ⊕ b)) = rw (add_is a b pa pb) (round_mono binary64 x c (num a * den b + num b * den a) (den a * den b) C D high) in
      let all : T (le (a ⊖ b) (a ⊕ b)) =
      rw (sub_is a b pa pb (le_of_lt less), add_is a b pa pb) (round_mono binary64 (num a * den b - num b * den a) (den a * den b) (num a * den b + num b * den a) (den a * den b) D D (mul-le-mul_right (den a * den b) (omega arith))) in
      let plo = finite_below (a ⊖ b) (a ⊕ b) a (above_of_le a (a ⊖ b) pa down) all up pa in
      let phi = between (a ⊖ b) (a ⊕ b) a plo pa all up in
      let pz = between (a ⊖ b) z (a ⊕ b) plo phi lo hi in
      one_number z a (round-fits binary64 false x c) fa pz pa (le_trans_positive z (a ⊕ b) a pz phi pa hi up) (le_trans_positive a (a ⊖ b) z pa plo pz down lo)
