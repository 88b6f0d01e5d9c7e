-- `b2mc` meets its contract: from index i on, the slice is the definition's answer on b from index i on. Assumes nothing.
use mathlib.Core.Path.{◌≡◌}
use Prim.Native.Nat.{◌+◌, ◌-◌}
use native.Mathlib.Omega.{arith}
use lib.ListN.{length, length-set}
use Rattle.cepstrum.proofs.CepstrumLaws.{b2mc_last, b2mc_turn}
use Rattle.cepstrum.proofs.coefficients.b2mc.Goals as goal

pub loop-i-init : goal.loop-i-init
loop-i-init c =
    (omega arith, simp length-set (omega arith), b2mc_last _ c.args.b.now c.args.c.now (length c.args.b.now - 1) (omega arith) (omega arith))

pub loop-i-preserved : goal.loop-i-preserved
loop-i-preserved c =
    let e : c.loop-i.i - 1 + 1 ≡ c.loop-i.i = omega arith in
    (omega arith, simp length-set (omega arith), b2mc_turn _ c.args.b.now c.loop-i.c (c.loop-i.i - 1) (omega arith) (omega arith) (rw e c.loop-i.invariant.2))
