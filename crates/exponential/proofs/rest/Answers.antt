-- `rest` meets its contract: the sign by what the bits add up to. Assumes nothing.
use Rattle.std.proofs.Common.{◌≡◌, ℕ, ◌+◌, ◌-◌, ◌*◌, ◌/◌, ◌%◌, ◌^◌, ◌<◌, ◌≤◌, Bool, true, false, cond, not, T, ltb, refl, lt_of_not-le, arith, le-ltb, lt-ltb}
use Rattle.std.specs.Int.{from_bool}
use native.Mathlib.Decide.{dec_le}
use lib.Ieee.{binary64, nan_bits, neg, of_bits, unlike}
use Rattle.number.specs.F64.{−◌}
use Rattle.exponential.specs.Exp.{unit, rest_of}
use Rattle.exponential.proofs.rest.Goals as goal

-- the uppermost bit of a difference that wraps says which number is larger
over_is : (u m : ℕ) → u < 2 ^ 64 → m < 2 ^ 64 → (u - m) + (m - u) ≤ 2 ^ 53 → (u + (2 ^ 64 - m)) % 2 ^ 64 / 2 ^ 63 ≡ from_bool (ltb u m)
over_is u m h k near = go (dec_le m u)
  where
    go : Dec (m ≤ u) → (u + (2 ^ 64 - m)) % 2 ^ 64 / 2 ^ 63 ≡ from_bool (ltb u m)
    go (yes l) = rw (le-ltb u m l) (omega arith)
    go (no l) = rw (lt-ltb u m (lt_of_not-le l)) (omega arith)

-- two signs of which one or none turns the rest
turned : (s o : Bool) → (from_bool s + from_bool o) % 2 ≡ from_bool (unlike o s)
turned false false = refl
turned false true = refl
turned true false = refl
turned true true = refl

sum_is : (negative : Bool) (u m s : ℕ) → s ≡ from_bool negative → u < 2 ^ 64 → m < 2 ^ 64 → (u - m) + (m - u) ≤ 2 ^ 53 → (s + (u + (2 ^ 64 - m)) % 2 ^ 64 / 2 ^ 63) % 2 ≡ from_bool (unlike (ltb u m) negative)
sum_is negative u m s e h k near = rw (e, over_is u m h k near) (turned negative (ltb u m))

abbrev bits : Bool → ℕ
bits b = 0x3c90_0000_0000_0000 + from_bool b * 0x8000_0000_0000_0000

no_nan : (b : Bool) → T (not (nan_bits binary64 (bits b)))
unfolding nan_bits
no_nan false = tt
no_nan true = tt

float_of : (b : Bool) → of_bits binary64 (bits b) ≡ cond b (− unit) unit
unfolding of_bits neg
float_of false = refl
float_of true = refl

pub float_from_bits-result : goal.float_from_bits-result
float_from_bits-result c = rw (sum_is c.args.negative c.args.u c.args.m _ c.from-sign.ensures (omega arith) (omega arith) c.requires) (no_nan (unlike (ltb c.args.u c.args.m) c.args.negative))

pub returns : goal.returns
unfolding rest_of
returns c =
    rw (c.abs_diff.ensures, sum_is c.args.negative c.args.u c.args.m _ c.from-sign.ensures (omega arith) (omega arith) c.requires, float_of (unlike (ltb c.args.u c.args.m) c.args.negative)) refl
