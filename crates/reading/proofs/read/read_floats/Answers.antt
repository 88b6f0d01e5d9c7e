-- `read_floats` meets its contract: what is still to be read. Assumes nothing.
use mathlib.Core.Path.{◌≡◌, refl, ◌∙◌}
use Prim.Native.Nat.{◌+◌, ◌-◌}
use native.Mathlib.Omega.{arith}
use lib.ListN.{length, length-set}
use Rattle.reading.proofs.ReadLaws.{read_turn, read_done, read_end}
use Rattle.reading.proofs.read.read_floats.Goals as goal

pub loop-i-preserved : goal.loop-i-preserved
loop-i-preserved c =
    let n = length c.args.values.now in
    (rw length-set (omega arith), length-set c.loop-i.values c.loop-i.i _ ∙ c.loop-i.invariant.1, c.loop-i.invariant.2, rw c.float_of.ensures (read_turn c.args.slots.now c.args.at n c.loop-i.i c.loop-i.values (omega arith) c.loop-i.invariant.2) ∙ c.loop-i.invariant.3)

pub returns : goal.returns
returns c =
    let n = length c.args.values.now in
    let all : n - 0 ≡ n = omega arith in
    let none : c.args.at + 0 ≡ c.args.at = omega arith in
    read_done c.args.slots.now c.args.at n c.loop-i.i c.loop-i.values (omega arith) ∙ c.loop-i.invariant.3 ∙ rw (all, none) (read_end c.args.slots.now c.args.at n c.args.values.now refl c.loop-i.invariant.2)
