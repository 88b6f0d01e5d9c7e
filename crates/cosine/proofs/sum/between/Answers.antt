-- `between` meets its contract, step by step, for each of the two. Assumes nothing.
use Rattle.std.proofs.Common.{refl}
use Rattle.cosine.specs.Cos.{alternating}
use Rattle.cosine.proofs.sum.between.Goals as goal

pub returns : goal.returns
unfolding alternating
returns c = record {
  first = rw (c.step_both.ensures.first_value.0, c.step_both-p12.ensures.first_value.0, c.step_both-p13.ensures.first_value.0, c.step_both-p14.ensures.first_value.0, c.step_both-p15.ensures.first_value.0, c.step_both-p16.ensures.first_value.0, c.step_both-p17.ensures.first_value.0, c.step_both-p18.ensures.first_value.0, c.step_both-p19.ensures.first_value.0, c.step_both-p20.ensures.first_value.0, c.requires.inner.first) refl;
  first_most = c.step_both.ensures.first_value.1;
  second = rw (c.step_both.ensures.second_value.0, c.step_both-p12.ensures.second_value.0, c.step_both-p13.ensures.second_value.0, c.step_both-p14.ensures.second_value.0, c.step_both-p15.ensures.second_value.0, c.step_both-p16.ensures.second_value.0, c.step_both-p17.ensures.second_value.0, c.step_both-p18.ensures.second_value.0, c.step_both-p19.ensures.second_value.0, c.step_both-p20.ensures.second_value.0, c.requires.inner.second) refl;
  second_most = c.step_both.ensures.second_value.1;
}
