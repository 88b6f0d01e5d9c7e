-- `lay_tap` meets its contract: the tap is stored in each lane. Assumes nothing.
use mathlib.Core.Path.{◌≡◌}
use Prim.Native.Nat.{◌+◌, ◌*◌}
use native.Mathlib.Omega.{arith}
use Rattle.lanes.proofs.LaneLaws.{each_lane}
use Rattle.lanes.proofs.TapLaws.{pair_put}
use Rattle.mlsa.proofs.layout.lay_tap.Goals as goal

pub returns : goal.returns
returns c =
    let stored = pair_put c.args.n c.args.i c.args.pair.now _ _ c.put.ensures c.requires.0 c.requires.1 in
    let row0 : c.args.from + 0 * c.args.n + c.args.i ≡ c.args.from + c.args.i = omega arith in
    let row1 : c.args.from + 1 * c.args.n + c.args.i ≡ c.args.from + c.args.n + c.args.i = omega arith in
    each_lane _ (rw row0 (stored 0 (omega arith))) (rw row1 (stored 1 (omega arith)))
