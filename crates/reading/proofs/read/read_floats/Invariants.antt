-- `read_floats` meets its contract: what is still to be read. Assumes nothing.
use mathlib.Core.Path.{◌≡◌}
use Prim.Native.Nat.{◌+◌, ◌≤◌}
use lib.ListN.{length}
use lib.Seq.{sets}
use Rattle.reading.proofs.ReadLaws.{to_read}
use Rattle.reading.proofs.read.read_floats.Given as goal

abbrev pub invariant-loop-i : goal.invariant-loop-i
invariant-loop-i l = (l.i ≤ length l.values) × (length l.values ≡ length l.initial.values) × (l.at + length l.initial.values ≤ length l.slots) × (sets l.values l.i (to_read l.slots l.at (length l.initial.values) l.i) ≡ sets l.initial.values 0 (to_read l.slots l.at (length l.initial.values) 0))
