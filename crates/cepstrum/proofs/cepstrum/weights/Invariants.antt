-- `weights` meets its contract: the first k weights are made. Assumes nothing.
use mathlib.Core.Path.{◌≡◌}
use Prim.Native.Nat.{◌≤◌}
use lib.ListN.{length, replicate}
use Rattle.number.specs.F64.{0f}
use Rattle.number.specs.Lists.{over}
use Rattle.cepstrum.specs.Weights.{weights_of}
use Rattle.cepstrum.proofs.cepstrum.weights.Given as goal

abbrev pub invariant-loop-k : goal.invariant-loop-k
invariant-loop-k l = (l.k ≤ 576) × (length l.w ≡ 576) × (l.w ≡ over (weights_of l.k l.c) l.k (replicate 576 0f))
