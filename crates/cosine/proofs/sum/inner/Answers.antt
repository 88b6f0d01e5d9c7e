-- `inner` meets its contract, for each of the two: the last ten steps, after the others. Assumes nothing.
use Rattle.std.proofs.Common.{refl}
use Rattle.cosine.specs.Cos.{alternating}
use Rattle.cosine.proofs.sum.inner.Goals as goal

pub returns : goal.returns
unfolding alternating
returns c = record {
  first = rw (c.step_both.ensures.first_value.0, c.step_both-p2.ensures.first_value.0, c.step_both-p3.ensures.first_value.0, c.step_both-p4.ensures.first_value.0, c.step_both-p5.ensures.first_value.0, c.step_both-p6.ensures.first_value.0, c.step_both-p7.ensures.first_value.0, c.step_both-p8.ensures.first_value.0, c.step_both-p9.ensures.first_value.0, c.step_both-p10.ensures.first_value.0, c.between-p.ensures.first) refl;
  first_most = c.step_both.ensures.first_value.1;
  second = rw (c.step_both.ensures.second_value.0, c.step_both-p2.ensures.second_value.0, c.step_both-p3.ensures.second_value.0, c.step_both-p4.ensures.second_value.0, c.step_both-p5.ensures.second_value.0, c.step_both-p6.ensures.second_value.0, c.step_both-p7.ensures.second_value.0, c.step_both-p8.ensures.second_value.0, c.step_both-p9.ensures.second_value.0, c.step_both-p10.ensures.second_value.0, c.between-p.ensures.second) refl;
  second_most = c.step_both.ensures.second_value.1;
}
