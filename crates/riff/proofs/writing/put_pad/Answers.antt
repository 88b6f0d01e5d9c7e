-- `put_pad`: one byte or none. Assumes nothing.
use mathlib.Core.Path.{◌≡◌, refl}
use Prim.Native.Nat.{◌%◌}
use native.Mathlib.Omega.{arith}
use Rattle.riff.specs.Writing.{zeros}
use Rattle.riff.proofs.writing.put_pad.Goals as goal

pub returns-then-sound-eq1 : goal.returns-then-sound-eq1
unfolding zeros
returns-then-sound-eq1 c = rw c.if-sound-eq1.true refl

pub returns-else-sound-eq1 : goal.returns-else-sound-eq1
unfolding zeros
returns-else-sound-eq1 c = let even : c.args.sound % 2 ≡ 0 = omega arith in rw even refl
