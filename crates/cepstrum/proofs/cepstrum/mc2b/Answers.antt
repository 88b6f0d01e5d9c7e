-- `mc2b` meets its contract: each arm's call says what the definition's test picks. Assumes nothing.
use Rattle.cepstrum.specs.Cepstrum.{mc2b_of}
use Rattle.cepstrum.proofs.cepstrum.mc2b.Goals as goal

pub returns-then-alpha : goal.returns-then-alpha
unfolding mc2b_of
returns-then-alpha c = rw c.if-alpha.true c.unwarp.ensures

pub returns-else-alpha : goal.returns-else-alpha
unfolding mc2b_of
returns-else-alpha c = rw c.if-alpha.false c.copy.ensures
