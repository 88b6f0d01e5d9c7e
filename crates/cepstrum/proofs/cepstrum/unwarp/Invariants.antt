-- `unwarp` meets its contract: from index i on, the slice is the definition's answer on c from index i on. Assumes nothing.
use mathlib.Core.Path.{◌≡◌}
use Prim.Native.Nat.{◌<◌}
use lib.ListN.{length, drop}
use Rattle.cepstrum.specs.Cepstrum.{unwarped}
use Rattle.cepstrum.proofs.cepstrum.unwarp.Given as goal

abbrev pub invariant-loop-i : goal.invariant-loop-i
invariant-loop-i l = (l.i < length l.c) × (length l.b ≡ length l.c) × (drop l.i l.b ≡ unwarped l.alpha (drop l.i l.c))
