-- `ignorm` meets its contract: the power's answer decides. Assumes nothing.
use Rattle.std.proofs.Common.{refl}
use Rattle.std.proofs.lemmas.Result.{err_from_is_err_and}
use Rattle.generalized.proofs.GeneralizedLaws.{ignorm_outside, ignorm_inside}
use Rattle.generalized.proofs.ignorm.Goals as goal

pub returns-in_err-k : goal.returns-in_err-k
returns-in_err-k c =
    let d = ignorm_outside c.args.s c.args.c.now c.in_err-k.ensures.value in
    let p = err_from_is_err_and c.from_residual.result c.from_residual.ensures.1 in
    record { value = rw (p.1, d) refl; c_after = rw d refl }

pub returns : goal.returns
returns c =
    let d = ignorm_inside c.args.s c.args.c.now c.in_ok-k.k c.in_ok-k.ensures.value in
    record { value = rw d refl; c_after = rw d c.ignorm_by.ensures }
