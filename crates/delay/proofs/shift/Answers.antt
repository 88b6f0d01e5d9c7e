-- `shift` meets its contract: the taps have moved down, and the last is zero. Assumes nothing.
use mathlib.Core.Path.{◌≡◌, ap, ◌∙◌}
use mathlib.Core.List.{◌++◌}
use native.Mathlib.Omega.{arith}
use Prim.Native.Nat.{ℕ, ◌+◌, ◌-◌}
use lib.ListN.{length, take, drop}
use Rattle.delay.proofs.LineLaws.{shift_last}
use Rattle.delay.proofs.shift.Goals as goal

pub returns-clause-line_after : goal.returns-clause-line_after
returns-clause-line_after c =
    let L = c.args.line.now in
    let last = length L - 1 in
    let past : 0 + last ≡ last = omega arith in
    shift_last L c.copy_within.new.self last (omega arith) (c.copy_within.ensures.after ∙ ap (λ (k : ℕ). take last (drop 1 L) ++ drop k L) past)
