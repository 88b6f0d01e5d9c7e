-- `entry` meets its contract. Assumes nothing.
use mathlib.Core.Path.{refl, sym, ◌∙◌}
use Prim.Native.Nat.{◌-◌}
use Rattle.postfilter.specs.Pairs.{spread_entry}
use Rattle.postfilter.proofs.pairs.entry.Goals as goal

pub returns-then-moves : goal.returns-then-moves
unfolding spread_entry
returns-then-moves c = rw (sym c.moves.ensures ∙ c.if-moves.true) c.moved.ensures

pub returns-else-moves : goal.returns-else-moves
unfolding spread_entry
returns-else-moves c = rw (sym c.moves.ensures ∙ c.if-moves.false) refl
