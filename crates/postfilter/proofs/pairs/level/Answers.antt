-- `level` meets its contract. Assumes nothing.
use mathlib.Core.Path.{refl, ap}
use mathlib.Core.Bool.{not}
use lib.Ieee.{Float, ne}
use Rattle.number.specs.F64.{◌⊗◌}
use Rattle.std.specs.Prelude.{Ok}
use Rattle.std.proofs.lemmas.Result.{err_from_is_err_and}
use Rattle.postfilter.proofs.PostfilterLaws.{level_same, level_root, level_outside, level_log}
use Rattle.postfilter.proofs.pairs.level.Goals as goal

pub returns-then-en1-en2 : goal.returns-then-en1-en2
unfolding ne
returns-then-en1-en2 c =
    rw (level_same c.args.log c.args.en1 c.args.en2 c.args.x (ap not c.if-en1-en2.true)) refl

pub returns-then-not-log : goal.returns-then-not-log
unfolding ne
returns-then-not-log c =
    rw (level_root c.args.log c.args.en1 c.args.en2 c.args.x (ap not c.if-en1-en2.false) (c.if-not-log.true)) (ap (λ (y : Float). Ok (c.args.x ⊗ y)) c.sqrt.ensures)

pub returns : goal.returns
unfolding ne
returns c =
    rw (level_log c.args.log c.args.en1 c.args.en2 c.args.x (ap not c.if-en1-en2.false) (c.if-not-log.false) c.in_ok-y.y c.in_ok-y.ensures.value) refl

pub returns-in_err-y : goal.returns-in_err-y
unfolding ne
returns-in_err-y c =
    let d = level_outside c.args.log c.args.en1 c.args.en2 c.args.x (ap not c.if-en1-en2.false) (c.if-not-log.false) c.in_err-y.ensures.value in
    let p = err_from_is_err_and c.from_residual.result c.from_residual.ensures.1 in
    rw (p.1, d) refl
