-- `innermost` meets its contract, step by step, for each of the two. Assumes nothing.
use Rattle.std.proofs.Common.{refl}
use Rattle.cosine.specs.Cos.{alternating}
use Rattle.cosine.proofs.sum.innermost.Goals as goal

pub returns : goal.returns
unfolding alternating
returns c = record {
  first = rw (c.step_both.ensures.first_value.0, c.step_both-p22.ensures.first_value.0, c.step_both-p23.ensures.first_value.0, c.step_both-p24.ensures.first_value.0, c.step_both-p25.ensures.first_value.0, c.step_both-p26.ensures.first_value.0, c.step_both-p27.ensures.first_value.0, c.step_both-p28.ensures.first_value.0, c.step_both-p29.ensures.first_value.0, c.step_both-p30.ensures.first_value.0) refl;
  first_most = c.step_both.ensures.first_value.1;
  second = rw (c.step_both.ensures.second_value.0, c.step_both-p22.ensures.second_value.0, c.step_both-p23.ensures.second_value.0, c.step_both-p24.ensures.second_value.0, c.step_both-p25.ensures.second_value.0, c.step_both-p26.ensures.second_value.0, c.step_both-p27.ensures.second_value.0, c.step_both-p28.ensures.second_value.0, c.step_both-p29.ensures.second_value.0, c.step_both-p30.ensures.second_value.0) refl;
  second_most = c.step_both.ensures.second_value.1;
}
