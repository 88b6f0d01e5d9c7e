-- The definitions at computed points. Assumes nothing.
use Rattle.std.specs.Prelude.{◌≡◌, refl, [], ◌∷◌, true, false, pos, negsuc}
use Rattle.std.specs.Float.{fin}
use Rattle.std.specs.Float.Ieee.{of_bits, of_int, to_bits, add, sub, mul, div, neg, lt, le, eq}
use Rattle.number.specs.F64.{0f, ½f, 1f, 2f}
use Rattle.elementary.specs.Outcome.{outside, inside}
use Rattle.power.specs.Power.{products, digits, root_of_pattern, inverse_power_of, inverse_root_of}
use Rattle.vectors.specs.Vectors.{sum_from, grown}
use Rattle.generalized.specs.Generalized.{gamma_of, gnorm_of, ignormed_by, ignorm_of, gc2gc_entry, gc2gc_of, mgc2mgc_of}

-- at stage 1 gamma is -1: of [1/2, 2, 1], k is 1/2
pub normalised : gnorm_of 1 (½f ∷ 2f ∷ 1f ∷ []) ≡ inside (fin false 1 (pos 1) ∷ fin false 1 (pos 2) ∷ fin false 1 (pos 1) ∷ [])
unfolding gnorm_of gamma_of inverse_power_of products of_bits of_int add mul div neg lt le eq
normalised = refl

-- and back: of the gain 2, k is 1/2
pub normalised_back : ignorm_of 1 (2f ∷ 2f ∷ []) ≡ inside (fin false 1 (negsuc 0) ∷ fin false 1 (pos 0) ∷ [])
unfolding ignorm_of ignormed_by gamma_of inverse_root_of root_of_pattern digits products of_bits of_int to_bits add sub mul div neg lt le eq
normalised_back = refl

-- k is -1, or the gain is 0: outside
pub negative_outside : gnorm_of 1 (2f ∷ 1f ∷ []) ≡ outside
unfolding gnorm_of gamma_of inverse_power_of of_bits of_int add mul div neg lt le eq
negative_outside = refl

pub no_gain_outside : ignorm_of 1 (0f ∷ 1f ∷ []) ≡ outside
unfolding ignorm_of inverse_root_of of_bits of_int neg lt le eq
no_gain_outside = refl

-- of [1, 2, 1, 1] at gamma -1: entry 2 is 1 + (-(1 * 4) + (1 * 4)) / 2, entry 3 is 1 + (-(1 * 2 + 2 * 2) + (2 * 2 + 1 * 2)) / 3
pub four_entries : gc2gc_of 1 4 (1f ∷ 2f ∷ 1f ∷ 1f ∷ []) ≡ 1f ∷ 2f ∷ 1f ∷ 1f ∷ []
unfolding gc2gc_of grown gc2gc_entry sum_from gamma_of of_bits of_int add sub mul div neg
four_entries = refl

-- at stage 2. In exact numbers both sums of an entry are equal; here they round differently, and the last entry comes to -1
pub sums_round : mgc2mgc_of 2 5 (1f ∷ ½f ∷ ½f ∷ fin false 4503599627370497 (pos 1) ∷ 0f ∷ []) ≡ inside (fin false 1 (pos 0) ∷ fin false 1 (negsuc 0) ∷ fin false 1 (negsuc 0) ∷ fin false 4503599627370497 (pos 1) ∷ fin true 1 (pos 0) ∷ [])
unfolding mgc2mgc_of gnorm_of inverse_power_of ignorm_of ignormed_by inverse_root_of root_of_pattern digits products gc2gc_of grown gc2gc_entry sum_from gamma_of of_bits of_int to_bits add sub mul div neg lt le eq
sums_round = refl
