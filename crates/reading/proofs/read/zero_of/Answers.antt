-- `zero_of` meets its contract. Assumes nothing.
use mathlib.Core.Path.{◌≡◌}
use Prim.Native.Nat.{◌+◌, ◌*◌, ◌≤◌}
use native.Mathlib.Omega.{arith}
use lib.ListN.{length}
use borrow.Author.Tests.{eq-eqb}
use Rattle.configuration.proofs.LimitsLaws.{sizes}
use Rattle.reading.proofs.read.zero_of.Goals as goal

pub zero_in-requires : goal.zero_in-requires
zero_in-requires c =
    let none : c.args.c.stage ≡ 0 = omega (arith, c.if-c-eq0.true) in
    let most = (sizes c.args.c c.requires.0).nmcp_most in
    let room : c.args.at + (18 + 6 * c.args.c.nmcp) ≤ length c.args.slots.now = rw (eq-eqb _ _ none) at c.requires.1 in
    (most, omega (arith, room))
