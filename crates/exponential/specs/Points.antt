-- exp at single points, computed. Assumes nothing.
use Rattle.std.specs.Prelude.{◌≡◌, ℕ, true, false, pos, negsuc, refl, Float}
use Rattle.std.specs.Float.{nan, inf, fin, binary64}
use Rattle.std.specs.Float.Ieee.{of_bits, of_int, add, mul, neg, lt, is_nan}
use Rattle.elementary.specs.Horner.{horner}
use Rattle.elementary.specs.Exact.{exp_turns, nearest, ten40, L40}
use Rattle.exponential.specs.Exp.{units, multiples, power_of_two, coefficients, rest_of, inside_of, exp_of}

-- the float of a bit pattern
abbrev f : ℕ → Float
f b = of_bits binary64 b

-- +0
pub at_zero : exp_of (f 0x0) ≡ fin false 1 (pos 0)
unfolding exp_of inside_of units multiples power_of_two coefficients rest_of horner exp_turns nearest ten40 L40 of_bits of_int add mul neg lt is_nan
at_zero = refl

-- -0
pub at_minus_zero : exp_of (f 0x8000_0000_0000_0000) ≡ fin false 1 (pos 0)
unfolding exp_of inside_of units multiples power_of_two coefficients rest_of horner exp_turns nearest ten40 L40 of_bits of_int add mul neg lt is_nan
at_minus_zero = refl

-- 1
pub at_one : exp_of (f 0x3ff0_0000_0000_0000) ≡ fin false 3060513257434037 (negsuc 49)
unfolding exp_of inside_of units multiples power_of_two coefficients rest_of horner exp_turns nearest ten40 L40 of_bits of_int add mul neg lt is_nan
at_one = refl

-- -1
pub at_minus_one : exp_of (f 0xbff0_0000_0000_0000) ≡ fin false 828390857088487 (negsuc 50)
unfolding exp_of inside_of units multiples power_of_two coefficients rest_of horner exp_turns nearest ten40 L40 of_bits of_int add mul neg lt is_nan
at_minus_one = refl

-- 1/2
pub at_half : exp_of (f 0x3fe0_0000_0000_0000) ≡ fin false 1856295125090727 (negsuc 49)
unfolding exp_of inside_of units multiples power_of_two coefficients rest_of horner exp_turns nearest ten40 L40 of_bits of_int add mul neg lt is_nan
at_half = refl

-- the least float above zero
pub at_least : exp_of (f 0x1) ≡ fin false 1 (pos 0)
unfolding exp_of inside_of units multiples power_of_two coefficients rest_of horner exp_turns nearest ten40 L40 of_bits of_int add mul neg lt is_nan
at_least = refl

-- 709, the last argument with a finite answer
pub at_709 : exp_of (f 0x4086_2800_0000_0000) ≡ fin false 8235536102055067 (pos 970)
unfolding exp_of inside_of units multiples power_of_two coefficients rest_of horner exp_turns nearest ten40 L40 of_bits of_int add mul neg lt is_nan
at_709 = refl

-- the next float after it
pub above_709 : exp_of (f 0x4086_2800_0000_0001) ≡ inf false
unfolding exp_of inside_of units multiples power_of_two coefficients rest_of horner exp_turns nearest ten40 L40 of_bits of_int add mul neg lt is_nan
above_709 = refl

-- -708, the first argument with an answer above zero
pub at_minus_708 : exp_of (f 0xc086_2000_0000_0000) ≡ fin false 1673640452174443 (negsuc 1071)
unfolding exp_of inside_of units multiples power_of_two coefficients rest_of horner exp_turns nearest ten40 L40 of_bits of_int add mul neg lt is_nan
at_minus_708 = refl

-- the float before it
pub below_minus_708 : exp_of (f 0xc086_2000_0000_0001) ≡ fin false 0 (pos 0)
unfolding exp_of inside_of units multiples power_of_two coefficients rest_of horner exp_turns nearest ten40 L40 of_bits of_int add mul neg lt is_nan
below_minus_708 = refl

-- the last argument with k = 0, and the next, with k = 1
pub before_half_way : exp_of (f 0x3fd6_2e42_fefa_39ef) ≡ fin false 1592262918131443 (negsuc 49)
unfolding exp_of inside_of units multiples power_of_two coefficients rest_of horner exp_turns nearest ten40 L40 of_bits of_int add mul neg lt is_nan
before_half_way = refl

pub after_half_way : exp_of (f 0x3fd6_2e42_fefa_39f0) ≡ fin false 3184525836262887 (negsuc 50)
unfolding exp_of inside_of units multiples power_of_two coefficients rest_of horner exp_turns nearest ten40 L40 of_bits of_int add mul neg lt is_nan
after_half_way = refl

pub at_infinity : exp_of (inf false) ≡ inf false
unfolding exp_of of_bits lt is_nan
at_infinity = refl

pub at_minus_infinity : exp_of (inf true) ≡ fin false 0 (pos 0)
unfolding exp_of of_bits neg lt is_nan
at_minus_infinity = refl

pub at_nan : exp_of nan ≡ nan
unfolding exp_of is_nan
at_nan = refl
