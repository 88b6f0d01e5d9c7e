-- The postfilters at computed points. Assumes nothing.
use Rattle.std.specs.Prelude.{◌≡◌, refl, [], ◌∷◌, true, false, pos, negsuc}
use Rattle.std.specs.Float.{nan, fin}
use Rattle.std.specs.Float.Ieee.{of_bits, add, sub, mul, div, neg, lt, le, ne, eq}
use Rattle.number.specs.F64.{0f, ½f, 1f, 2f}
use Rattle.elementary.specs.Outcome.{outside, inside}
use Rattle.root.specs.Root.{root_of, root_of_units, units_of, nearest_root, floor_root}
use Rattle.logarithm.specs.Ln.{ln_of}
use Rattle.vectors.specs.Vectors.{grown, times_from}
use Rattle.postfilter.specs.Mel.{sharpened_of, postfilter_mcp_of}
use Rattle.postfilter.specs.Pairs.{moved_of, spread_entry, spread_of, levelled, postfilter_lsp_of}

-- with alpha 1/2 and beta 1, of [1, 2, 2, 1/2]: the second loses 1, the third and the fourth are doubled
pub sharpened : sharpened_of ½f 1f (1f ∷ 2f ∷ 2f ∷ ½f ∷ []) ≡ 1f ∷ fin false 1 (pos 0) ∷ fin false 1 (pos 2) ∷ fin false 1 (pos 0) ∷ []
unfolding sharpened_of times_from of_bits add sub mul neg
sharpened = refl

-- for beta 0, and for two entries, nothing changes
pub beta_zero : postfilter_mcp_of ½f 0f (1f ∷ 2f ∷ 1f ∷ []) ≡ inside (1f ∷ 2f ∷ 1f ∷ [])
unfolding postfilter_mcp_of of_bits lt
beta_zero = refl

pub two_entries : postfilter_lsp_of 1f true 1 (1f ∷ 2f ∷ []) ≡ inside (1f ∷ 2f ∷ [])
unfolding postfilter_lsp_of of_bits lt
two_entries = refl

-- 2 between 1 and 4 with beta 1/2: d1 = 1 and d2 = 1/2, so it comes to 1 + 1/2 + (1/4 * (3 - 3/2)) / (5/4)
pub moved_entry : moved_of ½f 1f 2f (fin false 1 (pos 2)) ≡ fin false 0x1ccccccccccccd (negsuc 51)
unfolding moved_of of_bits add sub mul div neg
moved_entry = refl

-- of five entries the third and the fourth move
pub two_move : spread_of ½f (0f ∷ 0f ∷ 1f ∷ 2f ∷ 2f ∷ []) ≡ 0f ∷ 0f ∷ fin false 1 (pos 0) ∷ fin false 1 (pos 1) ∷ 2f ∷ []
unfolding spread_of grown spread_entry moved_of of_bits add sub mul div neg
two_move = refl

-- between equal neighbours 0 / 0 is the NaN
pub equal_neighbours : moved_of ½f 1f 1f 1f ≡ nan
unfolding moved_of of_bits add sub mul div neg
equal_neighbours = refl

-- energies 4 and 1: the gain is doubled; equal ones change nothing; and a NaN is different from itself
pub gain_doubled : levelled false (fin false 1 (pos 2)) 1f ½f ≡ inside (fin false 1 (pos 0))
unfolding levelled root_of root_of_units units_of nearest_root floor_root of_bits mul div ne eq neg lt
gain_doubled = refl

pub energy_kept : levelled true 1f 1f 2f ≡ inside 2f
unfolding levelled of_bits ne eq
energy_kept = refl

pub nan_is_different : levelled true nan nan 2f ≡ outside
unfolding levelled ln_of of_bits div ne eq le lt
nan_is_different = refl
