-- `multiply` meets its contract: the values of the first k pairs stand in the queue. Assumes nothing.
use mathlib.Core.Path.{◌≡◌}
use Prim.Native.Nat.{◌*◌}
use lib.ListN.{length}
use Rattle.number.specs.F64.{◌‼◌}
use Rattle.number.specs.Lists.{over}
use Rattle.root.specs.Root.{root_of}
use Rattle.noise.specs.Gathering.{pairs_of}
use Rattle.noise.proofs.gather.multiply.Given as goal

abbrev pub invariant-loop-k : goal.invariant-loop-k
invariant-loop-k l = (length l.queue ≡ 64) × (l.queue ≡ over (pairs_of (λ j. root_of (l.weights ‼ j)) l.k l.firsts l.seconds) (2 * l.k) l.initial.queue)
