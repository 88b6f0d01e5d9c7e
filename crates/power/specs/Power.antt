-- The powers with the exponents -s and -1 / s as they are computed, product by product. Definitions only.
use Rattle.std.specs.Prelude.{cond, ℕ, zero, suc, ◌+◌, ◌-◌, ◌*◌, ◌/◌, ◌%◌, ◌^◌, Float, Result, Ok, Err}
use Rattle.std.specs.Float.{binary64}
use Rattle.std.specs.Float.Ieee.{lt, eq, of_bits, to_bits}
use Rattle.number.specs.F64.{1f, ◌⊗◌, ◌⊘◌}
use Rattle.elementary.specs.Exact.{power_inside}
use Rattle.elementary.specs.declared.answer.Outside.{Outside}

-- x * c * .. * c, n products
unfoldable pub products : Float → Float → ℕ → Float
products x c zero = x
products x c (suc n) = products x c n ⊗ c

-- (2 ^ 52 + m) / 2 ^ 53, from 1/2 to 1: a number of 53 binary digits, with m those after the first one
abbrev pub half : ℕ → Float
half m = of_bits binary64 (0x3fe0_0000_0000_0000 + m)

-- The last n digits of m, found one after the other: a digit is 1 where v * c ^ s, for the c that it makes, is below 1.
unfoldable pub digits : (v : Float) (s n m : ℕ) → ℕ
unfolding products
digits v s zero m = m
digits v s (suc n) m = let next = m + 2 ^ n in digits v s n (cond (lt (products v (half next) s) 1f) next m)

-- The inverse root of the number of the pattern b. Its exponent is t - 840, and every s up to 8 divides 840.
-- So it is v * 2 ^ (s * (t / s) - 840) with v from 1 to 2 ^ s, and the root is c / 2 ^ (t / s - 840 / s), where c is the first number above the digits that are found for v.
unfoldable pub root_of_pattern : (b s : ℕ) → Float
unfolding digits
root_of_pattern b s =
    let t = b / 2 ^ 52 - 183 in
    let v = of_bits binary64 (b % 2 ^ 52 + (t % s + 1023) * 2 ^ 52) in
    of_bits binary64 (digits v s 52 0 + 1 + (1022 + 840 / s - t / s) * 2 ^ 52)

-- a number's inverse power or root, where a and s are inside; a power of 1 is 1
abbrev pub answer : Float → ℕ → Float → Result Float Outside
answer a s r = cond (power_inside a s) (Ok (cond (eq a 1f) 1f r)) (Err (record {}))

unfoldable pub inverse_power_of : Float → ℕ → Result Float Outside
unfolding products
inverse_power_of a s = answer a s (1f ⊘ products a a (s - 1))

unfoldable pub inverse_root_of : Float → ℕ → Result Float Outside
unfolding root_of_pattern
inverse_root_of a s = answer a s (root_of_pattern (to_bits binary64 a) s)
