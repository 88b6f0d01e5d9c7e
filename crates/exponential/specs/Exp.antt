-- The float that exp answers, step by step as the code works it out, in a form that computes. Definitions only.
use Rattle.std.specs.Prelude.{ℕ, ◌+◌, ◌-◌, ◌*◌, ◌/◌, ◌^◌, Bool, false, cond, List, [], ◌∷◌, pos, ◌==◌, from_bits, is_nan, nat_lt, Float}
use Rattle.std.specs.Float.{nan, inf, binary64}
use Rattle.std.specs.Float.Ieee.{of_int, lt, unlike}
use Rattle.std.specs.Float.Ieee.Positive.{num, den}
use Rattle.number.specs.F64.{◌⊗◌, ◌‼◌, −◌, 0f}
use Rattle.elementary.specs.Band.{sign_of}
use Rattle.elementary.specs.Horner.{horner}
use Rattle.elementary.specs.Exact.{exp_turns, 709f, 708f}

-- |x| in units of 2 ^ -54, rounded down
unfoldable pub units : Float → ℕ
units x = num x * 2 ^ 54 / den x

-- j times ln 2 in units of 2 ^ -53, rounded down: ln 2 is 6243314768165359 such units and 1881434294738959 / 2 ^ 53 of one
unfoldable pub multiples : ℕ → ℕ
multiples j = j * 6243314768165359 + j * 1881434294738959 / 2 ^ 53

-- 2 ^ k, and 2 ^ -k where s is true
unfoldable pub power_of_two : Bool → ℕ → Float
power_of_two s k = from_bits binary64 (cond s (1023 - k) (1023 + k) * 2 ^ 52)

-- the floats nearest to 1 / j!
unfoldable pub coefficients : List Float
coefficients =
    from_bits binary64 0x3ff0_0000_0000_0000
    ∷ from_bits binary64 0x3ff0_0000_0000_0000
    ∷ from_bits binary64 0x3fe0_0000_0000_0000
    ∷ from_bits binary64 0x3fc5_5555_5555_5555
    ∷ from_bits binary64 0x3fa5_5555_5555_5555
    ∷ from_bits binary64 0x3f81_1111_1111_1111
    ∷ from_bits binary64 0x3f56_c16c_16c1_6c17
    ∷ from_bits binary64 0x3f2a_01a0_1a01_a01a
    ∷ from_bits binary64 0x3efa_01a0_1a01_a01a
    ∷ from_bits binary64 0x3ec7_1de3_a556_c734
    ∷ from_bits binary64 0x3e92_7e4f_b778_9f5c
    ∷ from_bits binary64 0x3e5a_e645_67f5_44e4
    ∷ from_bits binary64 0x3e21_eed8_eff8_d898
    ∷ []

-- the sum of r ^ j / j!, j = 0 to `last`
abbrev pub last : ℕ
last = 12

abbrev pub sum_at : Float → Float
sum_at r = horner (λ (j : ℕ). coefficients ‼ j) r 0 last

-- 2 ^ -54
abbrev pub unit : Float
unit = from_bits binary64 0x3c90_0000_0000_0000

-- u - m units, exactly, and m - u units where s is true
unfoldable pub rest_of : Bool → (u m : ℕ) → Float
rest_of s u m = of_int binary64 (pos ((u - m) + (m - u))) ⊗ cond (unlike (nat_lt u m) s) (− unit) unit

-- e to the power of u units, for the k nearest to u / ln 2: 2 ^ k times the sum at r, where r = u - k * ln 2. Where s is true it is e to the power of -u units, and -k and -r are in place of k and r.
unfoldable pub inside_of : Bool → (u k : ℕ) → Float
unfolding multiples power_of_two coefficients rest_of
inside_of s u k =
    let m = multiples (2 * k) in
    cond (u == m) (power_of_two s k) (sum_at (rest_of s u m) ⊗ power_of_two s k)

-- the NaN of itself, the infinity above 709, 0 below -708
unfoldable pub exp_of : Float → Float
unfolding units inside_of
exp_of x = cond (is_nan x) nan (cond (lt 709f x) (inf false) (cond (lt x (− 708f)) 0f (inside_of (sign_of x) (units x) (exp_turns x))))
