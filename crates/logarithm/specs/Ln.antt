-- The logarithm as it is computed, float by float. Definitions only.
use Rattle.std.specs.Prelude.{false, cond, ℕ, ◌+◌, ◌-◌, ◌*◌, ◌/◌, pos, Float, Result, Ok, Err}
use Rattle.std.specs.Float.{binary64}
use Rattle.std.specs.Float.Ieee.{of_bits, to_bits, of_int, round, eq}
use Rattle.number.specs.F64.{◌⊕◌, ◌⊖◌, ◌⊗◌, ◌⊘◌, 1f, 2f}
use Rattle.elementary.specs.Series.{odd_number}
use Rattle.elementary.specs.Horner.{horner}
use Rattle.elementary.specs.Exact.{ln_inside}
use Rattle.elementary.specs.declared.answer.Outside.{Outside}

-- the float nearest to 1 / (2 * j + 1)
unfoldable pub coefficient : ℕ → Float
coefficient j = round binary64 false 1 (odd_number j)

-- 1 + z / 3 + z ^ 2 / 5 + .. + z ^ 10 / 21
abbrev pub highest : ℕ
highest = 10

unfoldable pub sum_of : Float → Float
sum_of z = horner coefficient z 0 highest

-- the logarithm of an m near 1, by t = (m - 1) / (m + 1)
unfoldable pub near_one : Float → Float
near_one m = let t = (m ⊖ 1f) ⊘ (m ⊕ 1f) in 2f ⊗ t ⊗ sum_of (t ⊗ t)

-- The number of a normal pattern b is 2 ^ (field b - 1023) times the number of the pattern part b, which is from 3/4 up and below 3/2:
-- 2 ^ 51 more, half the weight of the exponent's field, moves what is from 3/2 up into the next field.
unfoldable pub field : ℕ → ℕ
field b = (b + 0x8_0000_0000_0000) / 0x10_0000_0000_0000

unfoldable pub part : ℕ → ℕ
part b = b + 0x3ff0_0000_0000_0000 - field b * 0x10_0000_0000_0000

-- 1023, and the float nearest to the logarithm of 2
abbrev pub 1023f : Float
1023f = of_bits binary64 0x408f_f800_0000_0000

abbrev pub Lf : Float
Lf = of_bits binary64 0x3fe6_2e42_fefa_39ef

-- k times the logarithm of 2, for k = e - 1023
unfoldable pub turns : ℕ → Float
turns e = (of_int binary64 (pos e) ⊖ 1023f) ⊗ Lf

unfoldable pub of_pattern : ℕ → Float
of_pattern b = let m = of_bits binary64 (part b) in cond (eq m 1f) (turns (field b)) (turns (field b) ⊕ near_one m)

-- the answer
unfoldable pub ln_of : Float → Result Float Outside
ln_of x = cond (ln_inside x) (Ok (of_pattern (to_bits binary64 x))) (Err (record {}))
