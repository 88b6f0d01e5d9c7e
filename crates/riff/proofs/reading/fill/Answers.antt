-- `fill`: storing the samples from i on gives what storing all of them gives. Assumes nothing.
use Rattle.std.proofs.Common.{sym, ◌∙◌, length-set, arith}
use Rattle.riff.proofs.ReadingLaws.{numbers_turn, numbers_end}
use Rattle.riff.proofs.reading.fill.Goals as goal

pub loop-i-preserved : goal.loop-i-preserved
loop-i-preserved g c = (
  simp length-set c.loop-i.invariant.0,
  numbers_turn c.args.n g.row.K c.args.s.now c.args.start c.loop-i.i c.loop-i.out c.number_at.result (omega arith) c.number_at.ensures ∙ c.loop-i.invariant.1,
)

pub returns : goal.returns
returns g c =
    sym (numbers_end c.args.n g.row.K c.args.s.now c.args.start c.loop-i.i c.loop-i.out (omega arith)) ∙ c.loop-i.invariant.1
