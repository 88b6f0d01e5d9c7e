-- The definitions at computed points. Assumes nothing.
use Rattle.std.specs.Prelude.{◌≡◌, refl, [], ◌∷◌, true, false, pos, negsuc}
use Rattle.std.specs.Float.{fin}
use Rattle.std.specs.Float.Ieee.{of_bits, of_int, round, add, sub, mul, neg, lt, le, eq}
use Rattle.number.specs.F64.{0f, ½f, 1f, 2f}
use Rattle.elementary.specs.Outcome.{outside, inside}
use Rattle.cosine.specs.Cos.{units_of, turns_of, multiple, fold, rest_of, alternating, fall_of, float_of, one_less, cos_inside_of, cos_of}
use Rattle.lattice.specs.Lattice.{every_other, weights_of, inputs, output, predicted, lpc_of, lsp2lpc_of}

pub entries_apart : every_other (0f ∷ 1f ∷ 2f ∷ []) ≡ 0f ∷ 2f ∷ []
unfolding every_other
entries_apart = refl

-- a chain of two sections of weights 1 and 2, at 1 in: what went in before was 2 and 1/2, and before that 1/2 and 1
pub chain_inputs : inputs 1f (1f ∷ 2f ∷ []) (2f ∷ ½f ∷ []) (½f ∷ 1f ∷ []) ≡ 1f ∷ fin false 7 (negsuc 0) ∷ []
unfolding inputs of_bits add mul
chain_inputs = refl

pub chain_output : output 1f (1f ∷ 2f ∷ []) (2f ∷ ½f ∷ []) (½f ∷ 1f ∷ []) ≡ fin false 11 (negsuc 0)
unfolding output of_bits add mul
chain_output = refl

-- two pairs at 0: 1 - 2 z + z^2; three: 1 - 3 z + 3 z^2 - z^3
pub two_pairs : lsp2lpc_of (0f ∷ 0f ∷ []) ≡ inside (1f ∷ fin true 1 (pos 1) ∷ fin false 1 (pos 0) ∷ [])
unfolding lsp2lpc_of weights_of every_other lpc_of predicted inputs output cos_of cos_inside_of units_of turns_of multiple fold rest_of alternating fall_of float_of one_less round of_bits of_int add sub mul neg lt le eq
two_pairs = refl

pub three_pairs : lsp2lpc_of (0f ∷ 0f ∷ 0f ∷ []) ≡ inside (1f ∷ fin true 3 (pos 0) ∷ fin false 3 (pos 0) ∷ fin true 1 (pos 0) ∷ [])
unfolding lsp2lpc_of weights_of every_other lpc_of predicted inputs output cos_of cos_inside_of units_of turns_of multiple fold rest_of alternating fall_of float_of one_less round of_bits of_int add sub mul neg lt le eq
three_pairs = refl

-- entry 0 is read: past 2^20 its cosine is outside
pub first_entry_outside : lsp2lpc_of (fin false 0x100001 (pos 0) ∷ 0f ∷ []) ≡ outside
unfolding lsp2lpc_of weights_of every_other cos_of of_bits neg lt le eq
first_entry_outside = refl
