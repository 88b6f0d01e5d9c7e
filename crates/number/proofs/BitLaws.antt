-- A float's bits read back as the float, and bits come back from the float of them but for the other NaN patterns. Assumes nothing.
use Rattle.std.proofs.Common.{◌≡◌, ℕ, ◌%◌, ◌^◌, ◌<◌, ◌≤◌, Bool, true, false, not, ◌&&◌, T, eqb, sym, refl, ◌∙◌, arith, le-ltb, lt-ltb, eqb-true}
use borrow.Author.Tests.{eqb-false, not-true, not-false}
use lib.Ieee.{Float, nan, is_nan, binary64, fits, to_bits, nan_bits}
use lib.Ieee.Bits.{of_bits-to_bits, to_bits-of_bits, nan_bits_is, nan_bits_above}
use Rattle.number.specs.Bits.{bits_of, float_of, quiet, other_nan}
use Rattle.number.proofs.Floats.{is_the_nan}

-- up to an infinity's pattern, the sign aside, no pattern is a NaN's
pub below_no_nan : (b : ℕ) → b % 0x8000_0000_0000_0000 ≤ 0x7ff0_0000_0000_0000 → nan_bits binary64 b ≡ false
below_no_nan b h = nan_bits_above binary64 b ∙ le-ltb _ _ h

-- above it every pattern is
pub above_nan : (b : ℕ) → 0x7ff0_0000_0000_0000 < b % 0x8000_0000_0000_0000 → nan_bits binary64 b ≡ true
above_nan b h = nan_bits_above binary64 b ∙ lt-ltb _ _ h

-- a NaN's pattern reads as the NaN
pub nan_of_bits : (b : ℕ) → nan_bits binary64 b ≡ true → float_of b ≡ nan
nan_of_bits b e = is_the_nan (float_of b) (sym (nan_bits_is binary64 b) ∙ e)

pub float_of_bits_of : (x : Float) → T (fits binary64 x) → float_of (bits_of x) ≡ x
float_of_bits_of x h = of_bits-to_bits binary64 x h

-- where b is no NaN's pattern
number_bits : (b : ℕ) → b < 2 ^ 64 → nan_bits binary64 b ≡ false → bits_of (float_of b) ≡ b
number_bits b h e =
    let n : is_nan (float_of b) ≡ false = sym (nan_bits_is binary64 b) ∙ e in
    to_bits-of_bits binary64 b h (rw n tt)

-- where it is one, the pattern that is written comes back
nan_bits_lem : (b : ℕ) → nan_bits binary64 b ≡ true → bits_of (float_of b) ≡ quiet
unfolding to_bits
nan_bits_lem b e = rw (nan_of_bits b e) refl

pub bits_of_float_of : (b : ℕ) → b < 2 ^ 64 → other_nan b ≡ false → bits_of (float_of b) ≡ b
unfolding other_nan
bits_of_float_of b h = go (nan_bits binary64 b) refl
  where
    go : (t : Bool) → nan_bits binary64 b ≡ t → t && not (eqb b quiet) ≡ false → bits_of (float_of b) ≡ b
    go false n o = number_bits b h n
    go true n o = nan_bits_lem b n ∙ sym (eqb-true b quiet (not-false _ o))

pub bits_of_other_nan : (b : ℕ) → other_nan b ≡ true → bits_of (float_of b) ≡ quiet
unfolding other_nan
bits_of_other_nan b = go (nan_bits binary64 b) refl
  where
    go : (t : Bool) → nan_bits binary64 b ≡ t → t && not (eqb b quiet) ≡ true → bits_of (float_of b) ≡ quiet
    go false n o = cc
    go true n o = nan_bits_lem b n

-- so those patterns, and no others, do not come back
pub other_nan_lost : (b : ℕ) → other_nan b ≡ true → bits_of (float_of b) ≡ b → ⊥
unfolding other_nan
other_nan_lost b o e = lost (nan_bits binary64 b) o
  where
    lost : (t : Bool) → t && not (eqb b quiet) ≡ true → ⊥
    lost false q = let z : ◌≡◌ {A = ℕ} 0 1 = cc in omega arith
    lost true q = eqb-false b quiet (not-true _ q) (sym e ∙ bits_of_other_nan b o)
