-- What `kipawnore_start` makes of plain words. Definitions only.
use Rattle.std.specs.Prelude.{Bool, cond, ℕ, ◌^◌, min, Float, Option, None, Some}

-- the pitch of a frame, from a flag and a period
abbrev pub pitch_of : Bool → Float → Option Float
pitch_of voiced period = cond voiced (Some period) None

-- a period of more samples than a float can count is taken as the longest that it can
abbrev pub count_of : ℕ → ℕ
count_of fperiod = min fperiod (2 ^ 53)
