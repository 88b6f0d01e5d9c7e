-- `gnorm` meets its contract: the power's answer decides. Assumes nothing.
use Rattle.std.proofs.Common.{List, refl, ◌∙◌, ap, arith}
use Rattle.std.proofs.lemmas.Result.{err_from_is_err_and}
use lib.Ieee.{Float}
use lib.ListN.{set}
use Rattle.number.specs.F64.{◌⊕◌, ◌⊗◌, ◌‼◌, 1f}
use Rattle.generalized.proofs.GeneralizedLaws.{divided_and_set, gnorm_outside, gnorm_inside}
use Rattle.generalized.proofs.gnorm.Goals as goal

pub returns-in_err-gain : goal.returns-in_err-gain
returns-in_err-gain c =
    let e = ap (λ (g : Float). 1f ⊕ g ⊗ c.args.c.now ‼ 0) c.gamma.ensures in
    let d = gnorm_outside c.args.s c.args.c.now _ e c.in_err-gain.ensures.value in
    let p = err_from_is_err_and c.from_residual.result c.from_residual.ensures.1 in
    record { value = rw (p.1, d) refl; c_after = rw d refl }

pub returns : goal.returns
returns c =
    let e = ap (λ (g : Float). 1f ⊕ g ⊗ c.args.c.now ‼ 0) c.gamma.ensures in
    let d = gnorm_inside c.args.s c.args.c.now _ e c.in_ok-gain.gain c.in_ok-gain.ensures.value in
    let made = ap (λ (l : List Float). set l 0 c.in_ok-gain.gain) c.divide_from.ensures ∙ divided_and_set _ _ c.args.c.now (omega arith) in
    record { value = rw d refl; c_after = rw d made }
