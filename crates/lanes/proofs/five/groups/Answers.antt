-- `groups` meets its contract: the groups that are left make of each row here what all of them make of it at the start. Assumes nothing.
use mathlib.Core.Path.{sym, ap, ◌∙◌}
use Prim.Native.Nat.{◌+◌, ◌-◌, ◌*◌, ◌/◌}
use native.Mathlib.Omega.{arith}
use lib.ListN.{length}
use Rattle.fir.specs.Fir.{groups}
use Rattle.fir.proofs.FirLaws.{group_turn, groups_end}
use Rattle.lanes.proofs.five.groups.Goals as goal

pub loop-g-preserved : goal.loop-g-preserved
loop-g-preserved c k h =
    let m = (length c.args.c.now - 2) / 4 in
    ap (groups _ _ (m - (c.loop-g.g + 1)) (2 + 4 * (c.loop-g.g + 1))) (c.group_all-s.ensures k h) ∙ group_turn _ _ m c.loop-g.g _ (omega arith) ∙ c.loop-g.invariant k h

pub returns : goal.returns
returns c k h =
    sym (groups_end _ _ ((length c.args.c.now - 2) / 4) c.loop-g.g _ (omega arith)) ∙ c.loop-g.invariant k h
