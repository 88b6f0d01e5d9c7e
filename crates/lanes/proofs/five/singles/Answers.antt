-- `singles` meets its contract: the taps that are left make of each row here what all of them make of it at the start. Assumes nothing.
use mathlib.Core.Path.{sym, ap, ◌∙◌}
use Prim.Native.Nat.{◌+◌, ◌-◌}
use native.Mathlib.Omega.{arith}
use lib.ListN.{length}
use Rattle.fir.specs.Fir.{singles}
use Rattle.fir.proofs.FirLaws.{tap_turn, singles_end}
use Rattle.lanes.proofs.five.singles.Goals as goal

pub loop-i-preserved : goal.loop-i-preserved
loop-i-preserved c k h =
    let n = length c.args.c.now in
    ap (singles _ _ (n - (c.loop-i.i + 1)) (c.loop-i.i + 1)) (c.tap_all-s.ensures k h) ∙ tap_turn _ _ n c.loop-i.i _ (omega arith) ∙ c.loop-i.invariant k h

pub returns : goal.returns
returns c k h =
    sym (singles_end _ _ (length c.args.c.now) c.loop-i.i _ (omega arith)) ∙ c.loop-i.invariant k h
