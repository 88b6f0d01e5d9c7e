-- The laws of the square root: no float is nearer to the exact root, and no other float is as near. Assumes nothing.
use Rattle.std.proofs.Common.{◌≡◌, ℕ, zero, suc, ◌+◌, ◌*◌, ◌/◌, ◌^◌, ◌<◌, ◌≤◌, true, false, T, ◌⊎◌, ℤ, sym, refl, ap, ◌∙◌, subst, inl, inr, le_trans, lt_trans, le_of_eq, lt_of_lt_of_le, lt_of_le_of_lt, le_of_lt, lt_irrefl, mul-le-mul_right, add-mul, mul-le-mul, lt_of_mul-lt-mul_right, eq-or-lt_of_le, mul-le-mul_left, mul-lt-mul_of_pos_right, mul-pos, lt_of_not-le, arith, pow_pos, pow-add}
use native.Mathlib.Nat.{mul-mul-mul_comm}
use native.Mathlib.Decide.{dec_le}
use lib.Ieee.{Float, nan, inf, fin, binary64, fits, size, to_bits}
use lib.Ieee.Fits.{nan-fits, inf-fits, round-fits}
use Rattle.root.specs.Root.{nearest_root, units_of, root_of_units, root_of, from_zero, Nearest}
use Rattle.root.specs.Parts.{pattern_units, Split, NearestTo}
use Rattle.root.proofs.Whole.{nearest_is, neither_less}
use Rattle.root.proofs.Parts.{H, four_pow}
use Rattle.root.proofs.Floats.{bits_units, same_float, on_grid}
use Rattle.root.proofs.Answers.{parts_of, least, root_units}
use Rattle.root.proofs.Cases.{Above, bits_least, bits_most, root_above}

-- ---- on whole numbers: r steps of t are nearest to a root of 4 * n steps squared, and z is another number, whole in steps from 2 ^ 52 of them up
module _ (n r t z : ℕ) (near : NearestTo n r) (large : H ≤ r) (full : H * H ≤ n) (step : 0 < t) (grid : H * t ≤ z → (g : ℕ) × (z ≡ g * t)) where
  -- x is at most s steps, and s half steps are below the root
  under : (s x : ℕ) → s * s < 4 * n → x ≤ s * t → x * x < 4 * n * (t * t)
  under s x a b =
      lt_of_le_of_lt (mul-le-mul b b) (lt_of_le_of_lt (le_of_eq (mul-mul-mul_comm s t s t)) (mul-lt-mul_of_pos_right a (mul-pos step step)))

  -- numbers up to 2 * r - 1 half steps are below it
  half_below : (r s : ℕ) → r * r < n + r → s < 2 * r → s * s < 4 * n
  half_below zero s a h = absurd (omega arith)
  half_below (suc k) s a h = let b : s * s ≤ (2 * k + 1) * (2 * k + 1) = mul-le-mul {n₁ = s} {m₁ = s} {n₂ = 2 * k + 1} {m₂ = 2 * k + 1} (omega arith) (omega arith) in omega arith

  pub lower : z < r * t → (r * t + z) * (r * t + z) < 4 * n * (t * t)
  lower l = go (dec_le (H * t) z)
    where
      go : Dec (H * t ≤ z) → (r * t + z) * (r * t + z) < 4 * n * (t * t)
      go (yes y) =
          let g = grid y in
          let k : g.0 < r = lt_of_mul-lt-mul_right t (subst (λ (w : ℕ). w < r * t) g.1 l) in
          under (r + g.0) (r * t + z) (half_below r (r + g.0) near.low (omega arith)) (le_of_eq (ap (λ (w : ℕ). r * t + w) g.1 ∙ sym (add-mul r g.0 t)))
      go (no q) = split (eq-or-lt_of_le large)
        where
          short : z < H * t
          short = lt_of_not-le q

          split : (H ≡ r) ⊎ (H < r) → (r * t + z) * (r * t + z) < 4 * n * (t * t)
          split (inr m) = under (r + H) (r * t + z) (half_below r (r + H) near.low (omega arith)) (le_trans (le_of_lt (grow (r * t) z (H * t) short)) (le_of_eq (sym (add-mul r H t))))
            where
              grow : (a b c : ℕ) → b < c → a + b < a + c
              grow a b c h = omega arith
          split (inl m) =
              let w : r * t + z < 2 * H * t = double (r * t) (ap (λ (k : ℕ). k * t) m) in
              lt_of_lt_of_le (square (r * t + z) (2 * H * t) w) (le_trans (le_of_eq (mul-mul-mul_comm (2 * H) t (2 * H) t)) (mul-le-mul_right (t * t) fourfold))
            where
              double : (a : ℕ) → H * t ≡ a → a + z < 2 * H * t
              double a e = let s = short in omega arith

              square : (a b : ℕ) → a < b → a * a < b * b
              square a b h = lt_of_le_of_lt (mul-le-mul_left a (le_of_lt h)) (mul-lt-mul_of_pos_right h (lt_of_le_of_lt (omega arith) h))

              fourfold : 2 * H * (2 * H) ≤ 4 * n
              fourfold = let f = full in omega arith

  pub upper : r * t < z → 4 * n * (t * t) < (r * t + z) * (r * t + z)
  upper l =
      let g = grid (le_trans (mul-le-mul_right t large) (le_of_lt l)) in
      let k : r < g.0 = lt_of_mul-lt-mul_right t (subst (λ (w : ℕ). r * t < w) g.1 l) in
      let e : (r + g.0) * t ≡ r * t + z = add-mul r g.0 t ∙ ap (λ (w : ℕ). r * t + w) (sym g.1) in
      lt_of_lt_of_le (mul-lt-mul_of_pos_right (over g.0 k) (mul-pos step step)) (le_of_eq (sym (mul-mul-mul_comm (r + g.0) t (r + g.0) t) ∙ ap (λ (w : ℕ). w * w) e))
    where
      over : (g : ℕ) → r < g → 4 * n < (r + g) * (r + g)
      over g h = let b : (2 * r + 1) * (2 * r + 1) ≤ (r + g) * (r + g) = mul-le-mul {n₁ = 2 * r + 1} {m₁ = 2 * r + 1} {n₂ = r + g} {m₂ = r + g} (omega arith) (omega arith) in omega (arith, near.high)

-- ---- on floats: the root of a pattern's number
module _ (b m j : ℕ) (s : Split b m j) (x : Float) (same : units_of x ≡ pattern_units b) where
  abbrev n : ℕ
  n = m * 2 ^ 52

  abbrev r : ℕ
  r = nearest_root n

  abbrev t : ℕ
  t = 2 ^ (j + 484)

  near : NearestTo n r
  near = nearest_is n (omega (arith, s.least)) (omega (arith, s.most))

  root : units_of (root_of_units (pattern_units b)) ≡ r * t
  root = (root_units b m j s r near).0

  -- 4 * x, in units of 2 ^ -2148
  squared : 4 * units_of x * 2 ^ 1074 ≡ 4 * n * (t * t)
  squared =
      ap (λ (w : ℕ). 4 * w * 2 ^ 1074) same ∙ turn (pattern_units b) (2 ^ 54) (2 ^ 52) (2 ^ 484) ∙ ap (λ (w : ℕ). 4 * w * 2 ^ 52 * (2 ^ 484 * 2 ^ 484)) (s.is ∙ ap (λ (w : ℕ). m * w) (four_pow j))
      ∙ turn' (2 ^ j) (2 ^ 52) (2 ^ 484) ∙ ap (λ (w : ℕ). 4 * n * (w * w)) (sym (pow-add 2 j 484))
    where
      turn : (p a c u : ℕ) → 4 * p * (a * (c * (u * u))) ≡ 4 * (p * a) * c * (u * u)
      turn p a c u = omega arith

      turn' : (q c u : ℕ) → 4 * (m * (q * q)) * c * (u * u) ≡ 4 * (m * c) * (q * u * (q * u))
      turn' q c u = omega arith

  abbrev large : H ≤ r
  large = least b m j s r near

  full : H * H ≤ n
  full = omega (arith, s.least)

  nearest_of_parts : Nearest x (root_of_units (pattern_units b))
  nearest_of_parts = record {
    above = λ z f c l. rw (root, bits_units z f c, squared)
        (lower n r t (pattern_units (to_bits binary64 z)) near large full (pow_pos (j + 484)) (on_grid (to_bits binary64 z) (j + 484)) (rw (root, bits_units z f c) at l));
    below = λ z f c l. rw (root, bits_units z f c, squared)
        (upper n r t (pattern_units (to_bits binary64 z)) near large full (pow_pos (j + 484)) (on_grid (to_bits binary64 z) (j + 484)) (rw (root, bits_units z f c) at l));
  }

-- No float is as near to the exact root of a number above zero as the root is.
pub root_nearest : (m : ℕ) (e : ℤ) → T (fits binary64 (fin false (suc m) e)) → Nearest (fin false (suc m) e) (root_of (fin false (suc m) e))
root_nearest m e f =
    let x = fin false (suc m) e in
    let a : Above x = record { m = m; e = e; is = refl } in
    let p = parts_of (to_bits binary64 x) (bits_least x a f) (bits_most x a f) in
    subst (λ (y : Float). Nearest x y) (root_above x a f) (nearest_of_parts (to_bits binary64 x) p.0 p.1 p.2 x (bits_units x f tt))

-- Two floats cannot both be nearest.
pub one_nearest_float : (x y z : Float) → T (fits binary64 y) → T (from_zero y) → T (fits binary64 z) → T (from_zero z) → Nearest x y → Nearest x z → y ≡ z
one_nearest_float x y z fy cy fz cz a b = same_float y z fy cy fz cz (neither_less (not_less y z fy cy fz cz a b) (not_less z y fz cz fy cy b a))
  where
    not_less : (y z : Float) → T (fits binary64 y) → T (from_zero y) → T (fits binary64 z) → T (from_zero z) → Nearest x y → Nearest x z → units_of y < units_of z → ⊥
    not_less y z fy cy fz cz a b l = lt_irrefl (4 * units_of x * 2 ^ 1074) (lt_trans (a.below z fz cz l) (subst (λ (w : ℕ). w * w < 4 * units_of x * 2 ^ 1074) (swap (units_of z) (units_of y)) (b.above y fy cy l)))
      where
        swap : (i k : ℕ) → i + k ≡ k + i
        swap i k = omega arith

-- ---- what the root of a number above zero is, for the law that follows
from_zero_lem : (m : ℕ) (e : ℤ) → T (fits binary64 (fin false (suc m) e)) → T (from_zero (root_of (fin false (suc m) e)))
from_zero_lem m e f =
    let x = fin false (suc m) e in
    let a : Above x = record { m = m; e = e; is = refl } in
    let p = parts_of (to_bits binary64 x) (bits_least x a f) (bits_most x a f) in
    subst (λ (y : Float). T (from_zero y)) (root_above x a f) (root_units (to_bits binary64 x) p.0 p.1 p.2 (nearest_root (p.0 * 2 ^ 52)) (near (to_bits binary64 x) p.0 p.1 p.2 x (bits_units x f tt))).1

-- binary64 holds every root
pub root_fits : (x : Float) → T (fits binary64 x) → T (fits binary64 (root_of x))
unfolding root_of root_of_units
root_fits nan f = nan-fits binary64
root_fits (inf false) f = inf-fits binary64 false
root_fits (inf true) f = nan-fits binary64
root_fits (fin s zero e) f = f
root_fits (fin true (suc m) e) f = nan-fits binary64
root_fits (fin false (suc m) e) f =
    let j = (size (units_of (fin false (suc m) e)) + 1) / 2 in
    round-fits binary64 false (nearest_root (units_of (fin false (suc m) e) * 2 ^ 106 / 4 ^ j) * 2 ^ j) (2 ^ 590)

-- The root is the only float that is nearest.
pub root_only : (m : ℕ) (e : ℤ) → T (fits binary64 (fin false (suc m) e)) → (y : Float) → T (fits binary64 y) → T (from_zero y) → Nearest (fin false (suc m) e) y → y ≡ root_of (fin false (suc m) e)
root_only m e f y fy cy a = let x = fin false (suc m) e in one_nearest_float x y (root_of x) fy cy (root_fits x f) (from_zero_lem m e f) a (root_nearest m e f)
