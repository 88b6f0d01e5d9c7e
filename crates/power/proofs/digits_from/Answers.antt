-- `digits_from` meets its contract: what is left to find is what the definition leaves. Assumes nothing.
use mathlib.Core.Path.{sym, ◌∙◌}
use mathlib.Core.Bool.{true, false}
use Prim.Native.Nat.{◌-◌, ◌*◌, ◌%◌, ◌^◌}
use native.Mathlib.Omega.{arith}
use Rattle.power.specs.Power.{digits}
use Rattle.power.proofs.Turns.{Digit, digit, turn, found}
use Rattle.power.proofs.digits_from.Goals as goal
use Rattle.power.proofs.digits_from.Goals.{In-loop-n}

-- the digit that a turn tries
tried : (c : In-loop-n) → Digit c.loop-n.m (c.loop-n.n - 1)
tried c = digit c.loop-n.m c.loop-n.n (c.loop-n.n - 1) (omega arith) c.loop-n.invariant.0 c.loop-n.invariant.1

pub loop-n-preserved-then-is_below : goal.loop-n-preserved-then-is_below
loop-n-preserved-then-is_below c =
    let d = tried (goal.at.loop-n-preserved-then-is_below c).In-loop-n in
    (omega arith, omega arith, turn c.args.v c.args.s c.loop-n.n (c.loop-n.n - 1) c.loop-n.m (1 * 2 ^ (c.loop-n.n - 1) % 18446744073709551616) true (omega arith) d.weight (sym c.is_below.ensures ∙ c.if-is_below.true) ∙ c.loop-n.invariant.2)

pub loop-n-preserved : goal.loop-n-preserved
loop-n-preserved c =
    let d = tried (goal.at.loop-n-preserved c).In-loop-n in
    (omega arith, omega arith, turn c.args.v c.args.s c.loop-n.n (c.loop-n.n - 1) c.loop-n.m (1 * 2 ^ (c.loop-n.n - 1) % 18446744073709551616) false (omega arith) d.weight (sym c.is_below.ensures ∙ c.if-is_below.false) ∙ c.loop-n.invariant.2)

pub returns : goal.returns
returns c =
    let r = found c.args.v c.args.s c.loop-n.n c.loop-n.m (digits c.args.v c.args.s c.args.count c.args.start) (omega arith) c.loop-n.invariant.1 c.loop-n.invariant.2 in
    record { value = r.0; upper_bound = r.1 }
