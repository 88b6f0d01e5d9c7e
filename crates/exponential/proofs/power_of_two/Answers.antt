-- `power_of_two` meets its contract. Assumes nothing.
use Rattle.std.proofs.Common.{◌≡◌, ℕ, ◌+◌, ◌-◌, ◌*◌, ◌≤◌, Bool, cond, sym, ap, ◌∙◌, mod-eq_of_lt, arith}
use lib.Ieee.{binary64, of_bits}
use Rattle.root.proofs.Floats.{no_nan}
use Rattle.exponential.specs.Exp.{power_of_two}
use Rattle.exponential.proofs.power_of_two.Goals as goal
use Rattle.exponential.proofs.power_of_two.Goals.{Joined-negative, then-negative, else-negative}

field_is : (c : Joined-negative) → c.if-negative.e ≡ cond c.args.negative (1023 - c.args.k) (1023 + c.args.k)
field_is c =
    let field = λ (b : Bool). cond b (1023 - c.args.k) (1023 + c.args.k) in
    elim c.if-negative.branch [ then-negative w ↦ w.e-is ∙ sym (ap field w.if-negative.true) | else-negative w ↦ w.e-is ∙ sym (ap field w.if-negative.false) ]

field_small : (c : Joined-negative) → c.if-negative.e ≤ 2046
field_small c = elim c.if-negative.branch [ then-negative w ↦ omega arith | else-negative w ↦ omega arith ]

pub float_from_bits-result : goal.float_from_bits-result
float_from_bits-result c = let h = field_small (goal.at.float_from_bits-result c).Joined-negative in rw (mod-eq_of_lt {n = c.if-negative.e * 4503599627370496} {m = 18446744073709551616} (omega arith)) (no_nan (c.if-negative.e * 4503599627370496) (omega arith))

pub returns : goal.returns
unfolding power_of_two
returns c = let h = field_small (goal.at.returns c).Joined-negative in ap (of_bits binary64) (mod-eq_of_lt {n = c.if-negative.e * 4503599627370496} {m = 18446744073709551616} (omega arith) ∙ ap (λ (e : ℕ). e * 4503599627370496) (field_is (goal.at.returns c).Joined-negative))
