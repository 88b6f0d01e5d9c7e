-- The cosine as the code computes it: in whole numbers, in units of 2 ^ -59, each step rounded down. Definitions only.
use Rattle.std.specs.Prelude.{ℕ, zero, suc, ◌+◌, ◌-◌, ◌*◌, ◌/◌, ◌^◌, Bool, true, false, cond, nat_lt, Float, Result, Ok, Err}
use Rattle.std.specs.Float.{binary64}
use Rattle.std.specs.Float.Ieee.{round, neg}
use Rattle.std.specs.Float.Ieee.Positive.{num, den}
use Rattle.elementary.specs.Exact.{cos_inside}
use Rattle.elementary.specs.declared.answer.Outside.{Outside}

-- 1 is 2 ^ 59 units
abbrev pub one : ℕ
one = 576460752303423488

-- |x|
unfoldable pub units_of : Float → ℕ
units_of x = num x * 2 ^ 59 / den x

-- A whole number near |x| / 2P, from the whole part of |x|: 1 / 2P is just above 683565275 / 2 ^ 32. It need not be the nearest.
unfoldable pub turns_of : ℕ → ℕ
turns_of w = (w * 683565275 + 2 ^ 31) / 2 ^ 32

-- 2P is this many units, and 13522270992397 / 2 ^ 46 of one
abbrev pub turn : ℕ
turn = 3622009729038561421

-- k * 2P
unfoldable pub multiple : ℕ → ℕ
multiple k = k * turn + k * 13522270992397 / 2 ^ 46

-- how far one number is from another
abbrev pub gap : ℕ → ℕ → ℕ
gap a b = (a - b) + (b - a)

abbrev pub half_turn : ℕ
half_turn = 1811004864519280710

-- what is further than half of 2P from one multiple of 2P is nearer to the next
unfoldable pub fold : ℕ → ℕ
fold d = cond (nat_lt half_turn d) (turn - d) d

-- how far |x| is from the nearest multiple of 2P
unfoldable pub rest_of : ℕ → ℕ
unfolding turns_of multiple fold
rest_of u = fold (gap u (multiple (turns_of (u / one))))

-- 1 * 2, 3 * 4, 5 * 6, ..
abbrev pub pair : ℕ → ℕ
pair i = (2 * i + 1) * (2 * i + 2)

-- 1 - a / pair i * (1 - a / pair (i + 1) * (.. - a / pair (i + n - 1)))
unfoldable pub alternating : (a i n : ℕ) → ℕ
alternating a i zero = one
alternating a i (suc n) = one - a * alternating a (suc i) n / (one * pair i)

-- as many steps as lead from the divisor 3 * 4 to 61 * 62
abbrev pub steps : ℕ
steps = 30

-- 1 less the cosine of r: a / 2 * (1 - a / (3 * 4) * (..)) for a = r * r
unfoldable pub fall_of : ℕ → ℕ
unfolding alternating
fall_of r = let a = r * r / one in a * alternating a 1 steps / (one * 2)

-- n units, to the nearest multiple of 2 ^ -51, which a float holds exactly
unfoldable pub float_of : ℕ → Float
unfolding round
float_of n = round binary64 false ((n + 128) / 256) (2 ^ 51)

-- 1 less q units, which may be below zero
unfoldable pub one_less : ℕ → Float
unfolding float_of neg
one_less q = cond (nat_lt one q) (neg (float_of (q - one))) (float_of (one - q))

-- the answer where x is inside
unfoldable pub cos_inside_of : Float → Float
unfolding units_of rest_of fall_of one_less
cos_inside_of x = one_less (fall_of (rest_of (units_of x)))

-- a number where the test is true, and else that there is none
abbrev pub answer : Bool → Float → Result Float Outside
answer true y = Ok y
answer false y = Err (record {})

-- the cosine of x
unfoldable pub cos_of : Float → Result Float Outside
unfolding cos_inside_of
cos_of x = answer (cos_inside x) (cos_inside_of x)
