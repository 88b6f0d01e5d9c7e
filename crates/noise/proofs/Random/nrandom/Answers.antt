-- `nrandom` meets its contract. Assumes nothing.
use mathlib.Core.Path.{sym, ap, ◌∙◌}
use Prim.Native.Nat.{ℕ}
use lib.Ieee.{Float}
use borrow.Author.Tests.{lt-ltb, le-ltb}
use Rattle.std.specs.Prelude.{Option}
use Rattle.noise.specs.Draw.{tries}
use Rattle.noise.specs.Noise.{filled_of, take_from, taken_of}
use Rattle.noise.proofs.NoiseLaws.{value_left, value_filled, value_dry}
use Rattle.noise.proofs.Random.nrandom.Goals as goal
use Rattle.noise.proofs.Random.nrandom.Goals.{then-self-ge-VALUES+in_ok-self, else-self-ge-VALUES}

pub returns-in_err-self-clause-value : goal.returns-in_err-self-clause-value
returns-in_err-self-clause-value c =
    let all_taken = le-ltb c.args.self.now.used 64 c.if-self-ge-VALUES.true in
    let none = ap (λ (r : Option ℕ). filled_of r c.fill_queue.new.queue) (sym c.in_err-self.was) ∙ c.fill_queue.ensures.queue_after in
    ap (λ (r : Option Float). taken_of r (record { next = c.args.self.now.next; used = c.args.self.now.used; queue = c.fill_queue.new.queue })) c.from_residual.ensures ∙ value_dry tries c.args.self.now all_taken none

pub returns-clause-value : goal.returns-clause-value
returns-clause-value c = elim c.if-self-ge-VALUES.branch [
  | then-self-ge-VALUES+in_ok-self w ↦
      let all_taken = le-ltb c.args.self.now.used 64 w.if-self-ge-VALUES.true in
      let full = ap (λ (r : Option ℕ). filled_of r w.fill_queue.new.queue) (sym w.in_ok-self.was) ∙ w.fill_queue.ensures.queue_after in
      ap take_from w.self-is ∙ value_filled tries c.args.self.now _ _ all_taken full
  | else-self-ge-VALUES w ↦ ap take_from w.self-is ∙ value_left tries c.args.self.now (lt-ltb c.args.self.now.used 64 w.if-self-ge-VALUES.false)
]
