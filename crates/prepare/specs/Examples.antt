-- Preparing at computed points, item 12 of document 01's numbers to meet among them. Assumes nothing.
use Rattle.std.specs.Prelude.{◌≡◌, refl, [], ◌∷◌, true, false, pos}
use Rattle.std.specs.Float.{fin}
use Rattle.std.specs.Float.Ieee.{of_bits, of_int, to_bits, round, add, sub, mul, div, neg, lt, le, eq, ne}
use Rattle.number.specs.F64.{0f, ½f, 1f, 2f}
use Rattle.elementary.specs.Outcome.{outside, inside}
use Rattle.cosine.specs.Cos.{units_of, turns_of, multiple, fold, rest_of, alternating, fall_of, float_of, one_less, cos_inside_of, cos_of}
use Rattle.power.specs.Power.{products, digits, root_of_pattern, inverse_power_of, inverse_root_of}
use Rattle.vectors.specs.Vectors.{sum_from, energy_of, grown, times_from}
use Rattle.cepstrum.specs.Cepstrum.{unwarped, mc2b_of}
use Rattle.generalized.specs.Generalized.{gamma_of, gnorm_of, ignormed_by, ignorm_of, gc2gc_entry, gc2gc_of, mgc2mgc_of}
use Rattle.lattice.specs.Lattice.{every_other, weights_of, inputs, output, predicted, lpc_of, lsp2lpc_of}
use Rattle.lsp.specs.Lsp.{gain_of, lsp2mgc_of, lsp2en_of}
use Rattle.postfilter.specs.Mel.{postfilter_mcp_of}
use Rattle.postfilter.specs.Pairs.{moved_of, spread_entry, spread_of, levelled, filtered_lsp, postfilter_lsp_of}
use Rattle.prepare.specs.Preparing.{targets_mcp, prepared_mcp, targets_lsp, prepared_lsp}

-- stage 0 without postfilter, as the first frame and as a later one
pub first_frame : prepared_mcp ½f 0f true (0f ∷ 0f ∷ []) (1f ∷ 2f ∷ []) ≡ inside (record { start = fin false 0 (pos 0) ∷ 2f ∷ []; targets = fin false 0 (pos 0) ∷ 2f ∷ [] })
unfolding prepared_mcp targets_mcp postfilter_mcp_of mc2b_of unwarped of_bits add sub mul neg ne eq lt
first_frame = refl

pub later_frame : prepared_mcp ½f 0f false (½f ∷ 1f ∷ []) (1f ∷ 2f ∷ []) ≡ inside (record { start = ½f ∷ 1f ∷ []; targets = fin false 0 (pos 0) ∷ 2f ∷ [] })
unfolding prepared_mcp targets_mcp postfilter_mcp_of mc2b_of unwarped of_bits add sub mul neg ne eq lt
later_frame = refl

-- item 12: entries 1, 2 and 3 equal, stage 1, beta above 0: the postfilter makes a NaN, so cos is outside
pub item_12 : prepared_lsp ½f ½f false 1 false (0f ∷ 0f ∷ 0f ∷ 0f ∷ []) (1f ∷ ½f ∷ ½f ∷ ½f ∷ []) ≡ outside
unfolding prepared_lsp targets_lsp postfilter_lsp_of filtered_lsp spread_of spread_entry moved_of levelled lsp2en_of energy_of lsp2mgc_of gain_of lsp2lpc_of weights_of every_other lpc_of predicted inputs output cos_of cos_inside_of units_of turns_of multiple fold rest_of alternating fall_of float_of one_less mgc2mgc_of gnorm_of inverse_power_of ignorm_of ignormed_by inverse_root_of root_of_pattern digits products gc2gc_of grown gc2gc_entry sum_from gamma_of times_from round to_bits of_bits of_int add sub mul div neg lt le eq
item_12 = refl
