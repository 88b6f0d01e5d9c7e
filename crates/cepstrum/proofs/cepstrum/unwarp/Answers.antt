-- `unwarp` meets its contract: from index i on, the slice is the definition's answer on c from index i on. Assumes nothing.
use mathlib.Core.Path.{◌≡◌}
use Prim.Native.Nat.{◌+◌, ◌-◌}
use native.Mathlib.Omega.{arith}
use lib.ListN.{length, length-set}
use Rattle.cepstrum.proofs.CepstrumLaws.{unwarped_last, unwarped_turn}
use Rattle.cepstrum.proofs.cepstrum.unwarp.Goals as goal

pub loop-i-init : goal.loop-i-init
loop-i-init c =
    (omega arith, simp length-set (omega arith), unwarped_last _ c.args.c.now c.args.b.now (length c.args.c.now - 1) (omega arith) (omega arith))

pub loop-i-preserved : goal.loop-i-preserved
loop-i-preserved c =
    let e : c.loop-i.i - 1 + 1 ≡ c.loop-i.i = omega arith in
    (omega arith, simp length-set (omega arith), unwarped_turn _ c.args.c.now c.loop-i.b (c.loop-i.i - 1) (omega arith) (omega arith) (rw e c.loop-i.invariant.2))
