-- `warp_both` meets its contract: the taps that are left make of either row here what all of them make of it at the start. Assumes nothing.
use mathlib.Core.Path.{◌≡◌, ◌∙◌}
use Prim.Native.Nat.{◌+◌, ◌-◌}
use native.Mathlib.Omega.{arith}
use lib.ListN.{length, take, drop}
use Rattle.mglsa.proofs.PairLaws.{row_started, row_on, row_done, first_length, second_length, first_started, second_started}
use Rattle.mglsa.proofs.pair.warp_both.Goals as goal

pub loop-i-init : goal.loop-i-init
loop-i-init c =
    let d = c.args.d.now in
    let n = length c.args.c.now in
    let two : length d ≡ n + n = c.requires.1 in (
      row_started _ c.args.c.now (take n d) _ c.requires.0 (first_length d n c.requires.0 two) (c.start.ensures ∙ first_started d n c.requires.0 two _),
      row_started _ c.args.c.now (drop n d) _ c.requires.0 (second_length d n c.requires.0 two) (c.start-2.ensures ∙ second_started d n c.requires.0 two _),
    )

pub loop-i-preserved : goal.loop-i-preserved
loop-i-preserved c = (
  row_on _ _ _ c.loop-i.i _ _ _ _ c.loop-i-test.true c.loop-i.invariant.0 c.warp_both_at-s.ensures.first,
  row_on _ _ _ c.loop-i.i _ _ _ _ c.loop-i-test.true c.loop-i.invariant.1 c.warp_both_at-s.ensures.second,
)

pub returns : goal.returns
returns c =
    let last : c.loop-i.i ≡ length c.args.c.now - 1 = omega arith in
    record { sum_after = row_done _ _ _ _ _ _ last c.loop-i.invariant.0; sum2_after = row_done _ _ _ _ _ _ last c.loop-i.invariant.1 }
