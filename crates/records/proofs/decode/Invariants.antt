-- `decode` meets its contract: what is still to be read. Assumes nothing.
use mathlib.Core.Path.{◌≡◌}
use mathlib.Core.Bool.{◌&&◌}
use Prim.Native.Nat.{◌-◌, ◌*◌, ◌≤◌}
use lib.ListN.{length, drop}
use lib.Seq.{sets}
use Rattle.records.specs.Records.{values_in, in_order}
use Rattle.records.proofs.decode.Given as goal

abbrev pub invariant-loop-i : goal.invariant-loop-i
invariant-loop-i l = (l.i ≤ length l.values) × (length l.values ≡ length l.initial.values) × (sets l.values l.i (values_in (length l.initial.values - l.i) (drop (16 * l.i) l.bytes)) ≡ sets l.initial.values 0 (values_in (length l.initial.values) l.bytes)) × ((l.ordered && in_order l.i (length l.initial.values - l.i) (drop (16 * l.i) l.bytes)) ≡ in_order 0 (length l.initial.values) l.bytes)
