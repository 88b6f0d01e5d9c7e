-- `sweep_in` meets its contract: what is done, with what the definition makes of the rest, is what it makes of all. Assumes nothing.
use mathlib.Core.Path.{◌≡◌}
use Prim.Native.Nat.{◌+◌, ◌*◌}
use lib.ListN.{length}
use Rattle.wave.specs.Wave.{made_by}
use Rattle.wave.proofs.WaveLaws.{swept_from}
use Rattle.wave.proofs.sweep_in.Given as goal

abbrev pub invariant-loop-t : goal.invariant-loop-t
invariant-loop-t l = (length l.g ≡ length l.initial.g) × (swept_from l.alpha l.w.input (made_by l.w) (2 + 2 * l.t) l.g ≡ swept_from l.alpha l.initial.w.input (made_by l.initial.w) 2 l.initial.g)
