-- `root_digits` meets its contract: a search in a window where the test turns finds what the whole search finds. Assumes nothing.
use mathlib.Core.Path.{sym, ◌∙◌}
use Prim.Native.Nat.{◌-◌}
use native.Mathlib.Omega.{arith}
use Rattle.root.proofs.Floats.{no_nan}
use Rattle.power.proofs.Window.{in_window}
use Rattle.power.proofs.root_digits.Goals as goal

pub float_from_bits-v : goal.float_from_bits-v
float_from_bits-v c = no_nan c.args.b (omega arith)

pub returns-then-not-is_below : goal.returns-then-not-is_below
returns-then-not-is_below c =
    let low = c.guess-near.result - 2 in
    let same = in_window c.args.b c.args.s 2 low c.requires.fact_1.0 c.requires.fact_1.1 c.requires.fact_2 (omega arith) (sym c.is_below.ensures ∙ c.if-is_below.true) (sym c.is_below-then-is_below.ensures ∙ c.if-not-is_below.true) in
    record { value = c.digits_from.ensures.value ∙ same; upper_bound = c.digits_from.ensures.upper_bound }
