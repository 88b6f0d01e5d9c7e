-- `number_at`: two bytes turned by half their range, or the top one of three. Assumes nothing.
use mathlib.Core.Path.{◌≡◌}
use Prim.Native.Nat.{◌+◌, ◌*◌, ◌%◌, ◌≤◌}
use native.Mathlib.Omega.{arith}
use lib.Dec.{lit≤}
use lib.ListN.{length, get_or}
use Rattle.riff.specs.Reading.{field}
use Rattle.riff.proofs.ReadingLaws.{number_is, field_three}
use Rattle.riff.proofs.reading.number_at.Goals as goal

pub returns-then-this-eq2 : goal.returns-then-this-eq2
returns-then-this-eq2 g c =
    rw c.if-this-eq2.true (number_is 2 c.args.s.now c.args.at c.two-low.result ((c.two-low.result + 0x8000) % 0x1_0000) _ (lit≤ tt) (omega (arith, c.two-low.ensures.1)) c.two-low.ensures.0 (omega (arith, c.two-low.ensures.1)) c.centred.ensures)

pub returns : goal.returns
returns g c =
    let top = get_or c.args.s.now (c.args.at + 2) 0 in
    let k : g.row.K ≡ 3 = omega arith in
    let room : c.args.at + 3 ≤ length c.args.s.now = omega arith in
    let there : c.two-low.result + 65536 * top ≡ field 3 c.args.s.now c.args.at = rw c.two-low.ensures.0 (field_three c.args.s.now c.args.at room) in
    rw k (number_is 3 c.args.s.now c.args.at (c.two-low.result + 65536 * top) (c.two-low.result + 0x1_0000 * ((top + 128) % 256)) _ (lit≤ tt) (omega (arith, c.two-low.ensures.1, c.type_inv.s (c.args.at + 2))) there (omega (arith, c.two-low.ensures.1, c.type_inv.s (c.args.at + 2))) c.centred-2.ensures)
