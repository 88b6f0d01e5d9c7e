-- The pitch of a frame. Assumes nothing.
use Rattle.std.specs.Prelude.{◌≡◌, refl, cond, false, pos, negsuc, Float, Option, Some, None}
use Rattle.std.specs.Float.{fin, binary64}
use Rattle.std.specs.Float.Ieee.{of_bits, of_int, add, mul, div, neg, lt, eq, is_nan}
use Rattle.number.specs.F64.{◌⊘◌, 0f, 1f}
use Rattle.number.specs.Range.{clamp_of}
use Rattle.elementary.specs.Horner.{horner}
use Rattle.elementary.specs.Exact.{exp_turns, nearest, ten40, L40}
use Rattle.exponential.specs.Exp.{units, multiples, power_of_two, coefficients, rest_of, inside_of, exp_of}
use Rattle.configuration.specs.declared.Configuration.{Configuration}
use Rattle.configuration.specs.Limits.{usual, warped_by}

-- unvoiced where the log F0 is the no-data number; any other is voiced, with a period of rate / exp(clamped) samples
unfoldable pub pitch_of : Configuration → Float → Option Float
pitch_of c lf0 = cond (eq lf0 c.nodata) None (Some (of_int binary64 (pos c.rate) ⊘ exp_of (clamp_of lf0 c.low c.high)))

pub no_data : pitch_of usual usual.nodata ≡ None
unfolding pitch_of of_bits eq
no_data = refl

-- clamped to 0, whose exp is 1: the rate
pub clamped_to_zero : pitch_of (warped_by usual.alpha 0f 0f) 1f ≡ Some (fin false 125 (pos 7))
unfolding pitch_of exp_of inside_of units multiples power_of_two coefficients rest_of horner exp_turns nearest ten40 L40 of_bits of_int add mul div neg lt eq is_nan
clamped_to_zero = refl

-- 1 as it is, between 0 and 1: 16,000 / e
pub voiced_at_one : pitch_of (warped_by usual.alpha 0f 1f) 1f ≡ Some (fin false 1617950892750951 (negsuc 37))
unfolding pitch_of exp_of inside_of units multiples power_of_two coefficients rest_of horner exp_turns nearest ten40 L40 of_bits of_int add mul div neg lt eq is_nan
voiced_at_one = refl
