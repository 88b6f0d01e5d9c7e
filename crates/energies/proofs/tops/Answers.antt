-- `tops` meets its contract: from `left` on every place bounds what comes after it. Assumes nothing.
use mathlib.Core.Path.{◌≡◌}
use Prim.Native.Nat.{◌+◌, ◌-◌}
use native.Mathlib.Omega.{arith}
use lib.ListN.{length-set}
use Rattle.energies.proofs.TopLaws.{TopsFrom, tops_all, tops_more}
use Rattle.energies.proofs.tops.Goals as goal

pub loop-i-preserved : goal.loop-i-preserved
loop-i-preserved c =
    let k = c.loop-i.i - 1 in
    let on : k + 1 ≡ c.loop-i.i = omega arith in
    let from : TopsFrom (k + 1) c.loop-i.top c.loop-i.tops c.args.w.now = rw on c.loop-i.invariant.2 in
    (omega arith, simp length-set (omega arith), tops_more k c.loop-i.top c.later-top.result c.loop-i.tops c.args.w.now (omega arith) c.later-top.ensures.0 c.later-top.ensures.1 from)

pub returns : goal.returns
returns c =
    let none : c.loop-i.i ≡ 0 = omega arith in
    tops_all c.loop-i.top c.loop-i.tops c.args.w.now (rw none at c.loop-i.invariant.2)
