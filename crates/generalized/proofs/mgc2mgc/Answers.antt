-- `mgc2mgc` meets its contract: each answer decides, and the gain of d is that of c. Assumes nothing.
use Rattle.std.proofs.Common.{refl, sym, ap, ◌∙◌, length, arith}
use Rattle.std.proofs.lemmas.Result.{err_from_is_err_and}
use lib.Ieee.{Float}
use Rattle.elementary.proofs.OutcomeLaws.{is_outside, is_inside}
use Rattle.power.specs.Power.{inverse_root_of}
use Rattle.generalized.specs.Generalized.{ignormed_by, gnorm_of, gc2gc_of}
use Rattle.generalized.proofs.GeneralizedLaws.{ignorm_outside, ignorm_inside, mgc_outside, mgc_then, gc2gc_first}
use Rattle.generalized.proofs.mgc2mgc.Goals as goal

pub returns-in_default : goal.returns-in_default
returns-in_default c =
    let out = is_outside (gnorm_of c.args.s c.args.c.now) _ c.gnorm.ensures.value c.in_default.is in
    let d = mgc_outside c.args.s (length c.args.d.now) c.args.c.now out in
    record { value = rw d refl; c_after = c.gnorm.ensures.c_after; d_after = rw d refl }

pub returns-in_err-k : goal.returns-in_err-k
returns-in_err-k c =
    let n = length c.args.d.now in
    let gin = is_inside (gnorm_of c.args.s c.args.c.now) _ c.args.c.now c.gnorm.new.c c.gnorm.ensures.value c.in-Ok.is c.gnorm.ensures.c_after in
    let first = ap (λ (x : Float). inverse_root_of x c.args.s) (sym (gc2gc_first c.args.s n c.gnorm.new.c (omega arith))) in
    let back = ignorm_outside c.args.s (gc2gc_of c.args.s n c.gnorm.new.c) (c.in_err-k.ensures.value ∙ first) in
    let d = mgc_then c.args.s n c.args.c.now c.gnorm.new.c _ gin back in
    let p = err_from_is_err_and c.from_residual.result c.from_residual.ensures.1 in
    record { value = rw (p.1, d) refl; c_after = c.gnorm.ensures.c_after; d_after = rw d refl }

pub returns : goal.returns
returns c =
    let n = length c.args.d.now in
    let gin = is_inside (gnorm_of c.args.s c.args.c.now) _ c.args.c.now c.gnorm.new.c c.gnorm.ensures.value c.in-Ok.is c.gnorm.ensures.c_after in
    let first = ap (λ (x : Float). inverse_root_of x c.args.s) (sym (gc2gc_first c.args.s n c.gnorm.new.c (omega arith))) in
    let back = ignorm_inside c.args.s (gc2gc_of c.args.s n c.gnorm.new.c) c.in_ok-k.k (c.in_ok-k.ensures.value ∙ first) in
    let d = mgc_then c.args.s n c.args.c.now c.gnorm.new.c _ gin back in
    let made = c.ignorm_by.ensures ∙ ap (ignormed_by c.args.s c.in_ok-k.k) c.gc2gc.ensures in
    record { value = rw d refl; c_after = c.gnorm.ensures.c_after; d_after = rw d made }
