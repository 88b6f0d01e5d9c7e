-- What the parts of the square root's code promise one another. Definitions only.
use Rattle.std.specs.Prelude.{◌≡◌, ℕ, ◌+◌, ◌-◌, ◌*◌, ◌/◌, ◌%◌, ◌^◌, ◌<◌, ◌≤◌, cond, nat_lt, Option, None, Some}

-- the number that the bit pattern of a float from zero up stands for, in units of 2 ^ -1074
unfoldable pub pattern_units : ℕ → ℕ
pattern_units b = cond (nat_lt b (2 ^ 52)) b ((2 ^ 52 + b % 2 ^ 52) * 2 ^ (b / 2 ^ 52 - 1))

-- that number is m * 4 ^ j, in units of 2 ^ -1128, with m of 53 or 54 digits
pub record Split (b m j : ℕ) : Type 0 where
  pub is : pattern_units b * 2 ^ 54 ≡ m * 4 ^ j
  pub least : 2 ^ 52 ≤ m
  pub most : m < 2 ^ 54
  pub few : j ≤ 1050

-- r is nearest to the root of n: the root is above r - 1/2 and below r + 1/2
pub record NearestTo (n r : ℕ) : Type 0 where
  pub low : r * r < n + r
  pub high : n ≤ r * r + r

-- what q * q leaves of m * 2 ^ 54, where it is told and is below 2 ^ 63
abbrev pub RestOf : ℕ → ℕ → Option ℕ → Type 0
RestOf m q None = m ≡ m
RestOf m q (Some rest) = rest < 2 ^ 63 → q * q + rest ≡ m * 2 ^ 54
