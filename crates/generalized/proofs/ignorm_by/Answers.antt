-- `ignorm_by` meets its contract. Assumes nothing.
use native.Mathlib.Omega.{arith}
use Rattle.generalized.proofs.GeneralizedLaws.{ignorm_made}
use Rattle.generalized.proofs.ignorm_by.Goals as goal

pub returns : goal.returns
returns c =
    ignorm_made c.args.s c.args.k _ c.args.c.now _ (omega arith) c.multiply_from.ensures c.gamma.ensures
