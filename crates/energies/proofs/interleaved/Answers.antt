-- `interleaved` meets its contract: the first i entries of both are in their places. Assumes nothing.
use mathlib.Core.Path.{refl, ◌∙◌}
use Prim.Native.Nat.{◌+◌, ◌*◌}
use native.Mathlib.Omega.{arith}
use lib.Ieee.{nan}
use lib.ListN.{set, replicate, length-set}
use Rattle.number.specs.F64.{0f}
use Rattle.energies.proofs.PairLaws.{paired_zeros, paired_more}
use Rattle.energies.proofs.interleaved.Goals as goal

pub loop-i-init : goal.loop-i-init
loop-i-init c = (omega arith, refl, paired_zeros)

pub loop-i-preserved : goal.loop-i-preserved
loop-i-preserved c =
    let more = paired_more c.loop-i.both c.args.one.now c.args.other.now (replicate 576 0f) c.loop-i.i nan (omega arith) (omega arith) (omega arith) c.loop-i.invariant.2 in
    (omega arith, length-set (set c.loop-i.both (2 * c.loop-i.i) _) (2 * c.loop-i.i + 1) _ ∙ length-set c.loop-i.both (2 * c.loop-i.i) _ ∙ c.loop-i.invariant.1, more)
