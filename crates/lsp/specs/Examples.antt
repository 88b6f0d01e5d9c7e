-- The definitions at computed points. Assumes nothing.
use Rattle.std.specs.Prelude.{◌≡◌, refl, [], ◌∷◌, true, false, pos, negsuc}
use Rattle.std.specs.Float.{fin}
use Rattle.std.specs.Float.Ieee.{of_bits, of_int, to_bits, round, add, sub, mul, div, neg, lt, le, eq}
use Rattle.number.specs.F64.{0f, 1f}
use Rattle.elementary.specs.Outcome.{inside}
use Rattle.cosine.specs.Cos.{units_of, turns_of, multiple, fold, rest_of, alternating, fall_of, float_of, one_less, cos_inside_of, cos_of}
use Rattle.power.specs.Power.{products, digits, root_of_pattern, inverse_power_of, inverse_root_of}
use Rattle.vectors.specs.Vectors.{sum_from, grown, times_from}
use Rattle.generalized.specs.Generalized.{gamma_of, gnorm_of, ignormed_by, ignorm_of, gc2gc_entry, gc2gc_of, mgc2mgc_of}
use Rattle.lattice.specs.Lattice.{every_other, weights_of, inputs, output, predicted, lpc_of, lsp2lpc_of}
use Rattle.lsp.specs.Lsp.{gain_of, lsp2mgc_of}

-- the cepstrum of [1, 0] without log gain, at stage 1: the gain 1 comes to -0, and the second entry is 1 + cos 1
pub cepstrum_of_two : lsp2mgc_of false 1 (1f ∷ 0f ∷ []) ≡ inside (fin true 0 (pos 0) ∷ fin false 3468452445372835 (negsuc 50) ∷ [])
unfolding lsp2mgc_of gain_of lsp2lpc_of weights_of every_other lpc_of predicted inputs output cos_of cos_inside_of units_of turns_of multiple fold rest_of alternating fall_of float_of one_less mgc2mgc_of gnorm_of inverse_power_of ignorm_of ignormed_by inverse_root_of root_of_pattern digits products gc2gc_of grown gc2gc_entry sum_from gamma_of times_from round to_bits of_bits of_int add sub mul div neg lt le eq
cepstrum_of_two = refl
