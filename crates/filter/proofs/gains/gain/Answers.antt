-- `gain` meets its contract. Assumes nothing.
use mathlib.Core.Path.{◌∙◌}
use Rattle.filter.proofs.GainLaws.{gained_loud, gained_still}
use Rattle.filter.proofs.gains.gain.Goals as goal

pub returns-then-x : goal.returns-then-x
returns-then-x c c0 made = gained_loud c0 _ _ c.if-x.true (c.joined.ensures ∙ made)

pub returns-else-x : goal.returns-else-x
returns-else-x c c0 made = gained_still c0 _ c.if-x.false
