-- `zero_in` meets its contract. Assumes nothing.
use Prim.Native.Nat.{◌+◌, ◌*◌, ◌≤◌}
use native.Mathlib.Omega.{arith}
use lib.ListN.{length, replicate}
use Rattle.number.specs.F64.{0f}
use Rattle.slots.specs.Slots.{zero_in}
use Rattle.reading.proofs.ReadLaws.{array_of, taps_same}
use Rattle.reading.proofs.read.zero_in.Goals as goal

pub returns : goal.returns
unfolding zero_in
returns c =
    let rows = 6 * c.args.nmcp in
    let start = c.args.at + 6 + 6 + 6 in
    let few : rows ≤ 384 = omega (arith, c.requires.0) in
    let there : start + rows ≤ length c.args.slots.now = omega (arith, c.requires.1) in
    taps_same c.read_floats.ensures c.read_floats-2.ensures (array_of (replicate 384 0f) _ c.args.slots.now start rows few there c.read_floats-4.ensures) c.read_floats-3.ensures
