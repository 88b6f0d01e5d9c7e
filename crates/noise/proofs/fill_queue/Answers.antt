-- `fill_queue` meets its contract: its passes, put together. Assumes nothing.
use mathlib.Core.Path.{subst}
use Prim.Native.Nat.{ℕ}
use Rattle.std.specs.Prelude.{Option}
use Rattle.noise.specs.Draw.{tries}
use Rattle.noise.specs.Gathering.{Gathers}
use Rattle.noise.proofs.GatherLaws.{gathered_all}
use Rattle.noise.proofs.fill_queue.Goals as goal

pub returns-clause-queue_after : goal.returns-clause-queue_after
returns-clause-queue_after c =
    let g = subst (λ (r : Option ℕ). Gathers tries c.args.next r c.find_pairs.new.firsts c.find_pairs.new.seconds c.find_pairs.new.sums) c.in_ok-after.was c.find_pairs.ensures in
    gathered_all tries c.args.next c.in_ok-after.after c.find_pairs.new.firsts c.find_pairs.new.seconds c.find_pairs.new.sums c.weigh.new.weights c.multiply.new.queue g c.weigh.ensures c.multiply.ensures
