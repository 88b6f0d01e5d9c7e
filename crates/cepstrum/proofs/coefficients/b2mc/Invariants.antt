-- `b2mc` meets its contract: from index i on, the slice is the definition's answer on b from index i on. Assumes nothing.
use mathlib.Core.Path.{◌≡◌}
use Prim.Native.Nat.{◌<◌}
use lib.ListN.{length, drop}
use Rattle.cepstrum.specs.Cepstrum.{b2mc_of}
use Rattle.cepstrum.proofs.coefficients.b2mc.Given as goal

abbrev pub invariant-loop-i : goal.invariant-loop-i
invariant-loop-i l = (l.i < length l.b) × (length l.c ≡ length l.b) × (drop l.i l.c ≡ b2mc_of l.alpha (drop l.i l.b))
