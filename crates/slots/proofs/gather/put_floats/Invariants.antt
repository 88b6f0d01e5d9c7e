-- `put_floats` meets its contract: what is still to be stored. Assumes nothing.
use mathlib.Core.Path.{◌≡◌}
use mathlib.Core.List.{map}
use Prim.Native.Nat.{◌+◌, ◌≤◌}
use lib.ListN.{length, drop}
use lib.Seq.{sets}
use Rattle.number.specs.Bits.{bits_of}
use Rattle.slots.proofs.gather.put_floats.Given as goal

abbrev pub invariant-loop-i : goal.invariant-loop-i
invariant-loop-i l = (l.i ≤ length l.values) × (length l.slots ≡ length l.initial.slots) × (sets l.slots (l.at + l.i) (map bits_of (drop l.i l.values)) ≡ sets l.initial.slots l.at (map bits_of l.values))
