-- The square root of IEEE 754: of every float, the float nearest to the exact root. Definitions only.
use Rattle.std.specs.Prelude.{ℕ, zero, suc, ◌+◌, ◌-◌, ◌*◌, ◌/◌, ◌^◌, ◌<◌, Bool, true, false, cond, T, nat_le, nat_lt, Float}
use Rattle.std.specs.Float.{nan, inf, fin, binary64}
use Rattle.std.specs.Float.Ieee.{fits, up, down, size, round}

-- the greatest number of k binary digits whose square is at most n
unfoldable pub floor_root : ℕ → ℕ → ℕ
floor_root zero n = 0
floor_root (suc k) n = let r = 2 * floor_root k (n / 4) in cond (nat_le ((r + 1) * (r + 1)) n) (r + 1) r

-- The whole number nearest to the root of an n of 106 digits at most: r, or r + 1 where n is above r * r + r, since the root is then above r + 1/2.
unfoldable pub nearest_root : ℕ → ℕ
nearest_root n = let r = floor_root 53 n in cond (nat_lt r (n - r * r)) (r + 1) r

-- the size of a number in units of 2 ^ -1074, the least float above zero
unfoldable pub units_of : Float → ℕ
units_of nan = 0
units_of (inf s) = 0
units_of (fin s m e) = m * up e * 2 ^ 1074 / down e

-- The root of p units. It has half as many digits before the point as p has, j, and is kept to 53 digits, so to a unit of 2 ^ j / 2 ^ 590.
-- In that unit the exact root is the root of p * 2 ^ 106 / 4 ^ j.
unfoldable pub root_of_units : ℕ → Float
unfolding size round
root_of_units p = let j = (size p + 1) / 2 in round binary64 false (nearest_root (p * 2 ^ 106 / 4 ^ j) * 2 ^ j) (2 ^ 590)

-- the square root
unfoldable pub root_of : Float → Float
unfolding root_of_units units_of
root_of nan = nan
root_of (inf false) = inf false
root_of (inf true) = nan
root_of (fin s zero e) = fin s zero e
root_of (fin true (suc m) e) = nan
root_of (fin false (suc m) e) = root_of_units (units_of (fin false (suc m) e))

-- a number from +0 up
abbrev pub from_zero : Float → Bool
from_zero nan = false
from_zero (inf s) = false
from_zero (fin false m e) = true
from_zero (fin true m e) = false

-- No float is as near to the exact root of x as y is: for every other float z from zero up, the root lies on y's side of the point half way between y and z.
-- Both are squared: 4 * x is compared with (y + z) ^ 2, in units of 2 ^ -2148. (A float below zero is further from the root than zero is.)
pub record Nearest (x y : Float) : Type 0 where
  pub above : (z : Float) → T (fits binary64 z) → T (from_zero z) → units_of z < units_of y → (units_of y + units_of z) * (units_of y + units_of z) < 4 * units_of x * 2 ^ 1074
  pub below : (z : Float) → T (fits binary64 z) → T (from_zero z) → units_of y < units_of z → 4 * units_of x * 2 ^ 1074 < (units_of y + units_of z) * (units_of y + units_of z)
