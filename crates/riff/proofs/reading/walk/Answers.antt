-- `walk`: the walk from here on is the walk from the first chunk on. Assumes nothing.
use Rattle.std.proofs.Common.{◌∙◌, arith}
use Rattle.std.proofs.lemmas.Result.{err_from_is_err_and}
use Rattle.riff.proofs.ReadingLaws.{walk_start, walk_end, walk_refused, walk_further, walk_turn}
use Rattle.riff.proofs.reading.walk.Goals as goal

pub loop-c-init : goal.loop-c-init
loop-c-init c = walk_start c.args.s.now c.args.end c.requires.0 c.requires.1

pub returns-in_err-c : goal.returns-in_err-c
returns-in_err-c c =
    let p = err_from_is_err_and c.from_residual.result c.from_residual.ensures.1 in
    rw (p.1, p.2) (walk_refused _ _ _ _ c.loop-c.invariant c.loop-c-test.true _ c.in_err-c.ensures)

pub loop-c-smaller : goal.loop-c-smaller
loop-c-smaller c = omega (arith, c.loop-c-test.true, walk_further _ _ _ _ c.loop-c.invariant c.loop-c-test.true _ c.in_ok-c.ensures)

pub loop-c-preserved : goal.loop-c-preserved
loop-c-preserved c = walk_turn _ _ _ _ c.loop-c.invariant c.loop-c-test.true _ c.in_ok-c.ensures

pub returns : goal.returns
returns c = c.whole.ensures ∙ walk_end _ _ _ _ c.loop-c.invariant c.loop-c-test.false
