-- `warp` meets its contract: the taps that are left make of the row here what all of them make of it at the start. Assumes nothing.
use mathlib.Core.Path.{sym, ap, ◌∙◌}
use Prim.Native.Nat.{◌+◌, ◌-◌}
use native.Mathlib.Omega.{arith}
use lib.ListN.{length}
use Rattle.mglsa.specs.Mglsa.{warps, warped}
use Rattle.mglsa.proofs.MglsaLaws.{warp_turn, warp_end}
use Rattle.mglsa.proofs.warp.Goals as goal

pub loop-i-preserved : goal.loop-i-preserved
loop-i-preserved c =
    let n = length c.args.d.now - 1 in
    ap (warps _ _ (n - (c.loop-i.i + 1)) (c.loop-i.i + 1)) c.warp_at-y.ensures ∙ warp_turn _ _ n c.loop-i.i _ (omega arith) ∙ c.loop-i.invariant

pub returns : goal.returns
unfolding warped
returns c =
    sym (warp_end _ _ (length c.args.d.now - 1) c.loop-i.i _ (omega arith)) ∙ c.loop-i.invariant
