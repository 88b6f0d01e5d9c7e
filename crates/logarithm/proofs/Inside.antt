-- Where the logarithm is defined: what its tests say of x, and of x's pattern. Assumes nothing.
use mathlib.Core.Path.{◌≡◌, refl, sym}
use mathlib.Core.Bool.{true, false, true≢false}
use Prim.Native.Nat.{◌^◌, ◌≤◌, ◌<◌}
use native.Mathlib.Nat.{le_of_mul-le-mul_right}
use lib.Dec.{T, lit<}
use lib.Pow.{pow_pos}
use lib.Ieee.{Float, nan, inf, fin, binary64, fits, le, lt, of_bits, to_bits}
use lib.Ieee.Fits.{and_l, and_r}
use lib.Ieee.Exact.{HasValue}
use lib.Ieee.Positive.{positive, above, above_of_le, values_of_le}
use Rattle.number.specs.Range.{finite}
use Rattle.root.specs.Parts.{pattern_units}
use Rattle.root.proofs.Parts.{H}
use Rattle.root.proofs.Floats.{INF, bits_below, pattern_value}
use Rattle.elementary.specs.Exact.{ln_inside}
use Rattle.elementary.proofs.Patterns.{from_zero_lem, own_pattern, pattern_at_most}

-- the least normal float
abbrev pub least : Float
least = of_bits binary64 0x10_0000_0000_0000

least_above : T (positive least)
unfolding of_bits
least_above = tt

-- the code's two tests, and the definition's
pub inside : (x : Float) → le least x ≡ true → lt x (inf false) ≡ true → ln_inside x ≡ true
unfolding lt le of_bits
inside nan p q = p
inside (inf false) p q = absurd (true≢false (sym q))
inside (inf true) p q = p
inside (fin s m e) p q = rw p refl

pub outside_below : (x : Float) → le least x ≡ false → ln_inside x ≡ false
outside_below x p = rw p refl

pub outside_above : (x : Float) → le least x ≡ true → lt x (inf false) ≡ false → ln_inside x ≡ false
unfolding lt le of_bits
outside_above nan p q = refl
outside_above (inf false) p q = refl
outside_above (inf true) p q = refl
outside_above (fin s m e) p q = absurd (true≢false q)

-- ---- a float that is inside
pub normal_above : (x : Float) → T (ln_inside x) → T (positive x)
normal_above x i = go x (above_of_le least x least_above (and_l (le least x) (finite x) i)) (and_r (le least x) (finite x) i)
  where
    go : (x : Float) → T (above x) → T (finite x) → T (positive x)
    go nan a f = a
    go (inf s) a f = absurd f
    go (fin true m e) a f = a
    go (fin false m e) a f = a

module _ (x : Float) (f : T (fits binary64 x)) (i : T (ln_inside x)) where
  p : T (positive x)
  p = normal_above x i

  pub bits_most : to_bits binary64 x < INF
  bits_most = bits_below x f (from_zero_lem x p)

  pub units : HasValue x false (pattern_units (to_bits binary64 x)) (2 ^ 1074)
  units = own_pattern x f (from_zero_lem x p)

  pub bits_least : H ≤ to_bits binary64 x
  bits_least =
      pattern_at_most H (to_bits binary64 x)
      (le_of_mul-le-mul_right (values_of_le least x (pattern_units H) (2 ^ 1074) (pattern_units (to_bits binary64 x)) (2 ^ 1074) least_above p (pattern_value H (lit< tt)) units (and_l (le least x) (finite x) i)) (pow_pos 1074))
