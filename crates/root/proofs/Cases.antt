-- The branches of `sqrt`: what its tests say of x, and of the root there. Assumes nothing.
use Rattle.std.proofs.Common.{◌≡◌, ℕ, zero, suc, ◌*◌, ◌<◌, ◌≤◌, Bool, true, false, not, ◌&&◌, ◌||◌, T, eqb, ℤ, pos, sym, refl, ap, ◌∙◌, subst, true≢false, mul-pos, arith, ltb-false, ltb-true, eqb-true}
use mathlib.Core.Bool.{beq}
use lib.Ieee.{Float, nan, inf, fin, binary64, fits, up, down, lt, eq, level, is_nan, of_bits, to_bits}
use lib.Ieee.Bits.{of_bits-to_bits}
use lib.Ieee.Fits.{up_pos}
use Rattle.root.specs.Root.{units_of, root_of_units, root_of, from_zero}
use Rattle.root.specs.Parts.{pattern_units}
use Rattle.root.proofs.Floats.{INF, bits_below, bits_units}

-- +0
abbrev pub Z : Float
Z = fin false 0 (pos 0)

clash : {b : Bool} {A : Type 0} → b ≡ true → b ≡ false → A
clash p q = absurd (true≢false (sym p ∙ q))

-- ---- a number above zero
pub record Above (x : Float) : Type 0 where
  pub m : ℕ
  pub e : ℤ
  pub is : x ≡ fin false (suc m) e

pub above : (x : Float) → lt Z x ≡ true → lt x (inf false) ≡ true → Above x
unfolding lt
above nan p q = clash q refl
above (inf false) p q = clash q refl
above (inf true) p q = clash p refl
above (fin true m e) p q = clash p refl
above (fin false zero e) p q = absurd (none (down e) (up e) (ltb-true (0 * 1 * down e) (0 * up e * 1) p))
  where
    none : (d u : ℕ) → 0 * 1 * d < 0 * u * 1 → ⊥
    none d u h = omega arith
above (fin false (suc m) e) p q = record { m = m; e = e; is = refl }

module _ (x : Float) (a : Above x) (f : T (fits binary64 x)) where
  from_zero_lem : T (from_zero x)
  from_zero_lem = subst (λ (z : Float). T (from_zero z)) (sym a.is) tt

  pub number : T (not (is_nan x))
  unfolding is_nan
  number = subst (λ (z : Float). T (not (is_nan z))) (sym a.is) tt

  pub bits_most : to_bits binary64 x < INF
  bits_most = bits_below x f from_zero_lem

  pub bits_least : 1 ≤ to_bits binary64 x
  unfolding of_bits
  bits_least = go (to_bits binary64 x) (of_bits-to_bits binary64 x f ∙ a.is)
    where
      go : (b : ℕ) → of_bits binary64 b ≡ fin false (suc a.m) a.e → 1 ≤ b
      go zero e = absurd (let z : 0 ≡ suc a.m = cc in omega arith)
      go (suc b) e = omega arith

  pub root_above : root_of_units (pattern_units (to_bits binary64 x)) ≡ root_of x
  unfolding root_of
  root_above = ap root_of_units (sym (bits_units x f from_zero_lem)) ∙ subst (λ (z : Float). root_of_units (units_of z) ≡ root_of z) (sym a.is) refl

-- ---- the infinity, the zeros, and what is left
pub at_infinity : (x : Float) → lt Z x ≡ true → lt x (inf false) ≡ false → x ≡ root_of x
unfolding lt root_of
at_infinity nan p q = clash p refl
at_infinity (inf false) p q = refl
at_infinity (inf true) p q = clash p refl
at_infinity (fin s m e) p q = clash refl q

some : (m : ℕ) (e : ℤ) → 0 < suc m * up e
some m e = mul-pos {m = suc m} {n = up e} (omega arith) (up_pos e)

pub at_zero : (x : Float) → eq x Z ≡ true → x ≡ root_of x
unfolding eq root_of
at_zero nan p = clash p refl
at_zero (inf s) p = clash p refl
at_zero (fin s zero e) p = refl
at_zero (fin s (suc m) e) p = absurd (no (suc m * up e) (down e) (some m e) (eqb-true (suc m * up e * 1) (0 * 1 * down e) (first (eqb (suc m * up e * 1) (0 * 1 * down e)) (beq s false || eqb (suc m * up e * 1) 0) p)))
  where
    first : (a b : Bool) → (a && b) ≡ true → a ≡ true
    first true b p = refl
    first false b p = clash p refl

    no : (a d : ℕ) → 0 < a → a * 1 ≡ 0 * 1 * d → ⊥
    no a d h e = omega arith

pub elsewhere : (x : Float) → lt Z x ≡ false → eq x Z ≡ false → nan ≡ root_of x
unfolding lt eq root_of
elsewhere nan p q = refl
elsewhere (inf false) p q = clash refl p
elsewhere (inf true) p q = refl
elsewhere (fin s zero e) p q = clash (level_zero s (0 * up e * 1) (0 * 1 * down e) (none (up e)) (none' (down e))) q
  where
    none : (u : ℕ) → 0 * u * 1 ≡ 0
    none u = omega arith

    none' : (d : ℕ) → 0 * 1 * d ≡ 0
    none' d = omega arith

    level_none : (s : Bool) → level s 0 false 0 ≡ true
    level_none false = refl
    level_none true = refl

    level_zero : (s : Bool) (a b : ℕ) → a ≡ 0 → b ≡ 0 → level s a false b ≡ true
    level_zero s a b p q = rw (p, q) (level_none s)
elsewhere (fin false (suc m) e) p q = absurd (no (suc m * up e) (down e) (some m e) (ltb-false (0 * 1 * down e) (suc m * up e * 1) p))
  where
    no : (a d : ℕ) → 0 < a → a * 1 ≤ 0 * 1 * d → ⊥
    no a d h k = omega arith
elsewhere (fin true (suc m) e) p q = refl
