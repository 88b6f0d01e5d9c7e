-- `weigh` meets its contract: below k the weights are made. Assumes nothing.
use mathlib.Core.Path.{◌≡◌}
use Prim.Native.Nat.{ℕ, ◌<◌}
use lib.ListN.{length}
use Rattle.number.specs.F64.{◌‼◌}
use Rattle.noise.specs.Gathering.{weight_of}
use Rattle.noise.proofs.gather.weigh.Given as goal

abbrev pub invariant-loop-k : goal.invariant-loop-k
invariant-loop-k l = (length l.weights ≡ 32) × ((j : ℕ) → j < l.k → l.weights ‼ j ≡ weight_of (l.sums ‼ j))
