-- The repair at computed points. Assumes nothing.
use Rattle.std.specs.Prelude.{◌≡◌, refl, [], ◌∷◌, false, pos, negsuc, Float}
use Rattle.std.specs.Float.{fin, binary64}
use Rattle.std.specs.Float.Ieee.{of_bits, of_int, round, add, sub, mul, div, neg, lt}
use Rattle.number.specs.F64.{0f, 1f}
use Rattle.stability.specs.Stability.{PI, least_gap, gap, gaps, low_end, high_end, pass_of, passes_of, stable_of}

-- no float is nearer to P
pub PI-is-nearest : PI ≡ round binary64 false 31415926535897932384626433832795028841971 10000000000000000000000000000000000000000
unfolding of_bits round
PI-is-nearest = refl

abbrev 5f : Float
5f = fin false 5 (pos 0)

-- item 7: of [5, 0] the second entry becomes 0.25 * PI / 2, and the first one stays
pub item_7 : stable_of (5f ∷ 0f ∷ []) ≡ 5f ∷ least_gap 2 ∷ []
unfolding stable_of passes_of pass_of gaps low_end high_end least_gap of_bits of_int mul div sub add neg lt
item_7 = refl

-- that is 0x1.921fb54442d18p-2
pub item_7_bits : least_gap 2 ≡ of_bits binary64 0x3fd9_21fb_5444_2d18
unfolding least_gap of_bits of_int mul div
item_7_bits = refl

-- the Rust's answers too: of [0, 1, 1, 1] the gaps are repaired in four passes, and each pass changes something
pub four_passes : stable_of (0f ∷ 1f ∷ 1f ∷ 1f ∷ []) ≡ 0f ∷ fin false 453278542958957 (negsuc 48) ∷ fin false 2250072704859069 (negsuc 50) ∷ fin false 5384425128721693 (negsuc 51) ∷ []
unfolding stable_of passes_of pass_of gaps gap low_end high_end least_gap of_bits of_int mul div sub add neg lt
four_passes = refl

-- of [0, 3] the last entry becomes PI less the least gap
pub high_end_lem : stable_of (0f ∷ fin false 3 (pos 0) ∷ []) ≡ 0f ∷ fin false 6189958033024885 (negsuc 50) ∷ []
unfolding stable_of passes_of pass_of gaps low_end high_end least_gap of_bits of_int mul div sub add neg lt
high_end_lem = refl
