-- The definitions at computed points, items 3 to 5 of document 01's numbers to meet among them. Assumes nothing.
use Rattle.std.specs.Prelude.{◌≡◌, refl, [], ◌∷◌, true, false, pos, negsuc, Float}
use Rattle.std.specs.Float.{fin}
use Rattle.std.specs.Float.Ieee.{of_bits, of_int, add, sub, mul, div, neg, ne, is_nan, lt, eq}
use Rattle.number.specs.F64.{0f, ½f, 1f, 2f, −◌}
use Rattle.vectors.specs.Vectors.{sum_from, energy_of, grown}
use Rattle.elementary.specs.Exact.{exp_turns, nearest, ten40, L40}
use Rattle.exponential.specs.Exp.{units, inside_of, power_of_two, multiples, exp_of}
use Rattle.cepstrum.specs.Cepstrum.{unwarped, mc2b_of, b2mc_of, onward, pass, passes, freqt_of, c2ir_of, energy_on}

abbrev 4f : Float
4f = fin false 1 (pos 2)

-- item 3: of [1, 2, 4] with alpha 0.5
pub item_3 : mc2b_of ½f (1f ∷ 2f ∷ 4f ∷ []) ≡ fin false 1 (pos 0) ∷ fin false 0 (pos 0) ∷ 4f ∷ []
unfolding mc2b_of unwarped of_bits add sub mul ne eq
item_3 = refl

-- item 4: and back
pub item_4 : b2mc_of ½f (1f ∷ 0f ∷ 4f ∷ []) ≡ fin false 1 (pos 0) ∷ fin false 1 (pos 1) ∷ 4f ∷ []
unfolding b2mc_of of_bits add mul
item_4 = refl

-- item 5: of [1, 2], m2 1, alpha 0.5: [2.5, 0.75]
pub item_5 : freqt_of ½f 2 (1f ∷ 2f ∷ []) ≡ fin false 5 (negsuc 0) ∷ fin false 3 (negsuc 1) ∷ []
unfolding freqt_of passes pass onward of_bits add sub mul neg
item_5 = refl

-- to four entries: [2.5, 0.75, -0.375, 0.1875]
pub four_entries : freqt_of ½f 4 (1f ∷ 2f ∷ []) ≡ fin false 5 (negsuc 0) ∷ fin false 3 (negsuc 1) ∷ fin true 3 (negsuc 2) ∷ fin false 3 (negsuc 3) ∷ []
unfolding freqt_of passes pass onward of_bits add sub mul neg
four_entries = refl

-- at alpha 0 `mc2b` is a copy, and -0 stays; `b2mc` is none: -0 + 0 * 1 is 0
pub copy_keeps_minus_zero : mc2b_of 0f (− 0f ∷ 1f ∷ []) ≡ − 0f ∷ 1f ∷ []
unfolding mc2b_of of_bits ne eq
copy_keeps_minus_zero = refl

pub sum_loses_minus_zero : b2mc_of 0f (− 0f ∷ 1f ∷ []) ≡ fin false 0 (pos 0) ∷ 1f ∷ []
unfolding b2mc_of of_bits add mul neg
sum_loses_minus_zero = refl

-- the impulse response of [0, 2, 1]: 1, then 2 * 1, then (2 * 2 + 2 * 1 * 1) / 2
pub impulse_response : c2ir_of 3 (0f ∷ 2f ∷ 1f ∷ []) ≡ fin false 1 (pos 0) ∷ fin false 1 (pos 1) ∷ fin false 3 (pos 0) ∷ []
unfolding c2ir_of grown sum_from exp_of units exp_turns nearest ten40 L40 inside_of power_of_two multiples of_bits of_int add mul div neg is_nan lt eq
impulse_response = refl

-- the energy of [3, 2] with alpha 0.5, on 2 numbers: the cepstrum [4, 2], warped [0, 3], response [1, 3]
pub energy_on_two : energy_on 2 ½f (fin false 3 (pos 0) ∷ 2f ∷ []) ≡ fin false 5 (pos 1)
unfolding energy_on energy_of b2mc_of freqt_of passes pass onward c2ir_of grown sum_from exp_of units exp_turns nearest ten40 L40 inside_of power_of_two multiples of_bits of_int add sub mul div neg is_nan lt eq
energy_on_two = refl
