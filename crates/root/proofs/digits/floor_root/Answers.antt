-- `floor_root` meets its contract: each turn keeps `Turned`, whichever way its test goes. Assumes nothing.
use Rattle.std.proofs.Common.{ℕ, ◌+◌, ◌*◌, ◌%◌, ◌^◌, ◌<◌, sym, subst₂, arith}
use Rattle.root.proofs.Turns.{Turned, room, one_digit, zero_digit}
use Rattle.root.proofs.digits.floor_root.Goals as goal
use Rattle.root.proofs.digits.floor_root.Goals.{In-loop-i, then-next-trial, else-next-trial}

-- within a turn, before the test
small : (c : In-loop-i) → c.loop-i.root < 2 ^ 52
small c = room c.loop-i.root c.loop-i.i c.loop-i-test.true c.loop-i.invariant.short

pub overflow_mul-next : goal.overflow_mul-next
overflow_mul-next c = let h = small c in omega arith

pub overflow_add-next : goal.overflow_add-next
overflow_add-next c = let h = small c in omega arith

pub overflow_mul-trial : goal.overflow_mul-trial
overflow_mul-trial c = let h = small c in omega arith

pub overflow_add-trial : goal.overflow_add-trial
overflow_add-trial c = let h = small c in omega arith

pub loop-i-preserved : goal.loop-i-preserved
loop-i-preserved c =
    let turned = λ (a b : ℕ). Turned c.args.m ((c.loop-i.digits * 2 ^ 2) % 2 ^ 64) a b (c.loop-i.i + 1) in
    elim c.if-next-trial.branch [
      | then-next-trial w ↦ subst₂ turned (sym w.root-is) (sym w.rest-is) (one_digit c.args.m c.loop-i.digits c.loop-i.root c.loop-i.rest c.loop-i.i c.loop-i.invariant c.loop-i-test.true w.if-next-trial.true)
      | else-next-trial w ↦ subst₂ turned (sym w.root-is) (sym w.rest-is) (zero_digit c.args.m c.loop-i.digits c.loop-i.root c.loop-i.rest c.loop-i.i c.loop-i.invariant c.loop-i-test.true w.if-next-trial.false)
    ]
