-- An answer as one float. Assumes nothing.
use mathlib.Core.Path.{◌≡◌, refl, ◌∙◌}
use lib.Ieee.{Float, of_bits, div}
use Rattle.std.specs.Prelude.{Result, Ok, Err}
use Rattle.std.specs.Result.{result_unwrap_or}
use Rattle.number.specs.F64.{◌⊘◌, 0f}
use Rattle.elementary.specs.declared.answer.Outside.{Outside}
use Rattle.elementary.specs.Band.{number_of}
use Rattle.exports.proofs.number_of.Goals as goal

number_is : (answer : Result Float Outside) → result_unwrap_or answer (0f ⊘ 0f) ≡ number_of answer
unfolding number_of of_bits div
number_is (Ok y) = refl
number_is (Err o) = refl

pub returns : goal.returns
returns c = c.unwrap_or.ensures ∙ number_is c.args.answer
