-- The coefficients that a frame's spectrum is prepared to are as many as its entries. Assumes nothing.
use mathlib.Core.Path.{◌≡◌}
use mathlib.Core.Bool.{Bool}
use mathlib.Core.List.{List}
use Prim.Native.Nat.{◌≤◌}
use lib.ListN.{length}
use lib.Ieee.{Float}
use Rattle.configuration.specs.declared.Configuration.{Configuration}
use Rattle.giving.specs.Begin.{prepared_for}
use Rattle.held.proofs.OutcomesKeep.{Inside, Both, prepared_such}
use Rattle.stream.proofs.MelLaws.{Has, length_mc2b, targets_mcp_lem}
use Rattle.stream.proofs.PairLaws.{coefficients_of_lem, targets_lsp_lem}

-- AS MANY AS THE SPECTRUM HAS, where the coefficients now are as many
pub prepared_of : (c : Configuration) (first : Bool) (now spectrum : List Float) → 1 ≤ length spectrum → length now ≡ length spectrum
    → Inside (Both (Has (length spectrum))) (prepared_for c first now spectrum)
prepared_of c first now spectrum some same =
    let alpha = c.alpha in
    prepared_such (Has (length spectrum)) c first now spectrum same (length_mc2b alpha spectrum) (targets_mcp_lem alpha c.beta spectrum)
    (coefficients_of_lem alpha c.log c.stage spectrum some) (targets_lsp_lem alpha c.log c.stage c.beta spectrum some)
