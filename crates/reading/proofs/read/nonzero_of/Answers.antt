-- `nonzero_of` meets its contract. Assumes nothing.
use mathlib.Core.Path.{◌≡◌}
use mathlib.Core.Bool.{false}
use Prim.Native.Nat.{◌+◌, ◌*◌, ◌≤◌}
use native.Mathlib.Omega.{arith}
use lib.Dec.{eqb}
use lib.ListN.{length}
use borrow.Author.Tests.{ne_eqb}
use Rattle.slots.proofs.CountLaws.{rows_most}
use Rattle.reading.proofs.read.nonzero_of.Goals as goal

pub nonzero_in-requires : goal.nonzero_in-requires
nonzero_in-requires c =
    let few = rows_most c.args.c c.requires.0 in
    let some : eqb c.args.c.stage 0 ≡ false = ne_eqb _ _ (λ (e : c.args.c.stage ≡ 0). absurd (omega (arith, e, c.if-c-eq0.false))) in
    let room : c.args.at + c.args.c.stage * c.args.c.nmcp ≤ length c.args.slots.now = rw some at c.requires.1 in
    (few, room)
