-- `nearest` meets its contract: the guess, or one less. Assumes nothing.
use Rattle.std.proofs.Common.{ℕ, ◌≤◌, arith}
use Rattle.exponential.proofs.Guess.{guess_right, guess_large}
use Rattle.exponential.proofs.reduction.nearest.Goals as goal

pub returns-then-u-multiple : goal.returns-then-u-multiple
returns-then-u-multiple c =
    guess_large c.args.u _ c.requires (omega arith) c.if-k-gt0.true (rw c.multiple.ensures at c.if-u-multiple.true)

pub returns-else-u-multiple : goal.returns-else-u-multiple
returns-else-u-multiple c =
    guess_right c.args.u _ c.requires (omega arith) (λ _. rw c.multiple.ensures at c.if-u-multiple.false)

pub returns-else-k-gt0 : goal.returns-else-k-gt0
returns-else-k-gt0 c = guess_right c.args.u _ c.requires (omega arith) (λ h. absurd (none _ h c.if-k-gt0.false))
  where
    none : (k : ℕ) → 1 ≤ k → k ≤ 0 → ⊥
    none k h g = omega arith
