-- `encode` meets its contract: what is still to be written. Assumes nothing.
use mathlib.Core.Path.{◌≡◌}
use Prim.Native.Nat.{◌*◌, ◌≤◌}
use lib.ListN.{length, drop}
use lib.Seq.{sets}
use Rattle.records.specs.Records.{encoded, numbered}
use Rattle.records.proofs.encode.Given as goal

abbrev pub invariant-loop-i : goal.invariant-loop-i
invariant-loop-i l = (l.i ≤ length l.values) × (length l.out ≡ length l.initial.out) × (sets l.out (16 * l.i) (encoded (numbered l.i (drop l.i l.values))) ≡ sets l.initial.out 0 (encoded (numbered 0 l.values)))
