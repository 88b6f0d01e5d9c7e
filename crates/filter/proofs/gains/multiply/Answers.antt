-- `multiply` meets its contract: the samples that are left, from c0 here on, come to what all of them come to from the start. Assumes nothing.
use mathlib.Core.Path.{◌≡◌, sym, ap, ◌∙◌}
use Prim.Native.Nat.{ℕ}
use native.Mathlib.Omega.{arith}
use lib.ListN.{length}
use Rattle.history.specs.Through.{passage}
use Rattle.history.proofs.ThroughLaws.{through_all, through_end}
use Rattle.filter.specs.Zero.{gain_of, on_by}
use Rattle.filter.proofs.GainLaws.{gain_turn}
use Rattle.filter.proofs.gains.multiply.Goals as goal

pub loop-i-init : goal.loop-i-init
unfolding on_by
loop-i-init c increment start p = through_all _ _ _

pub loop-i-preserved : goal.loop-i-preserved
loop-i-preserved c increment start p =
    gain_turn increment start c.loop-i.i c.loop-i.samples _ (omega arith) (c.gain-loud.ensures (on_by increment start c.loop-i.i) (p c.loop-i.i (omega arith))) ∙ c.loop-i.invariant increment start p

pub returns : goal.returns
returns c increment start p =
    let all : c.loop-i.i ≡ length c.args.samples.now = omega arith in
    ap (λ (n : ℕ). passage c.loop-i.samples (on_by increment start n)) (sym all) ∙ sym (through_end (gain_of increment) c.loop-i.i (on_by increment start c.loop-i.i) c.loop-i.samples (omega arith)) ∙ c.loop-i.invariant increment start p
