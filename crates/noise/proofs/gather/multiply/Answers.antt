-- `multiply` meets its contract: the values of the first k pairs stand in the queue. Assumes nothing.
use mathlib.Core.Path.{◌∙◌}
use Prim.Native.Nat.{◌+◌, ◌*◌}
use native.Mathlib.Omega.{arith}
use lib.ListN.{set, length-set}
use borrow.Author.Rules.{rules}
use Rattle.number.specs.F64.{◌‼◌}
use Rattle.root.specs.Root.{root_of}
use Rattle.noise.proofs.GatherLaws.{multiplied_none, multiplied_more}
use Rattle.noise.proofs.gather.multiply.Goals as goal

pub loop-k-init : goal.loop-k-init
loop-k-init c =
    (search rules, multiplied_none (λ j. root_of (c.args.weights.now ‼ j)) c.args.firsts.now c.args.seconds.now c.args.queue.now)

pub loop-k-preserved : goal.loop-k-preserved
loop-k-preserved c = (
  length-set (set c.loop-k.queue (2 * c.loop-k.k) _) (2 * c.loop-k.k + 1) _ ∙ length-set c.loop-k.queue (2 * c.loop-k.k) _ ∙ c.loop-k.invariant.0,
  multiplied_more (λ j. root_of (c.args.weights.now ‼ j)) c.args.firsts.now c.args.seconds.now c.args.queue.now c.loop-k.queue c.loop-k.k c.sqrt_near-m.result c.loop-k.invariant.1 c.sqrt_near-m.ensures (omega arith),
)
