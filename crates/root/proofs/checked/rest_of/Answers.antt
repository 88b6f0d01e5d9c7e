-- `rest_of` meets its contract: the tests make each difference exact, and the three steps take q * q off. Assumes nothing.
use Rattle.std.proofs.Common.{refl, arith}
use Rattle.root.proofs.Guess.{left}
use Rattle.root.proofs.checked.rest_of.Goals as goal

pub returns : goal.returns
returns c small = left c.args.m c.args.q _ _ _ (omega arith) (omega arith) refl refl refl (omega arith) (omega arith) small
