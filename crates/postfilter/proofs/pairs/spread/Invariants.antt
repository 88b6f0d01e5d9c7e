-- `spread` meets its contract: the first i entries are made. Assumes nothing.
use mathlib.Core.Path.{◌≡◌}
use Prim.Native.Nat.{◌≤◌}
use lib.ListN.{length}
use Rattle.number.specs.Lists.{over}
use Rattle.vectors.specs.Vectors.{grown}
use Rattle.postfilter.specs.Pairs.{spread_entry}
use Rattle.postfilter.proofs.pairs.spread.Given as goal

abbrev pub invariant-loop-i : goal.invariant-loop-i
invariant-loop-i l = (l.i ≤ length l.lsp) × (length l.buf ≡ length l.lsp) × (length l.initial.buf ≡ length l.lsp) × (l.buf ≡ over (grown (λ _. spread_entry l.beta l.lsp) l.i) l.i l.initial.buf)
