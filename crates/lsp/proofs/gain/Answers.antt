-- `gain` meets its contract. Assumes nothing.
use mathlib.Core.Path.{refl}
use Rattle.lsp.specs.Lsp.{gain_of}
use Rattle.lsp.proofs.gain.Goals as goal

pub returns-then-log : goal.returns-then-log
unfolding gain_of
returns-then-log c = rw c.if-log.true c.exp.ensures.value

pub returns-else-log : goal.returns-else-log
unfolding gain_of
returns-else-log c = rw c.if-log.false refl
