-- `units`: the digits moved up, moved down, or gone. Assumes nothing.
use Rattle.std.proofs.Common.{ℕ, ◌+◌, ◌-◌, ◌/◌, ◌%◌, ◌^◌, sym, ap, ◌∙◌, mod-eq_of_lt, arith}
use Rattle.root.proofs.Parts.{H}
use Rattle.cosine.proofs.Pattern.{moved_up, moved_down, vanished, word_of_digits}
use Rattle.cosine.proofs.angle.units.Goals as goal

pub returns-then-field-n-ge1075 : goal.returns-then-field-n-ge1075
returns-then-field-n-ge1075 c = ap (λ (z : ℕ). z % 2 ^ 64) (sym (moved_up c.args.b c.args.n (omega arith) (omega arith)))

pub returns-then-drop-lt64 : goal.returns-then-drop-lt64
returns-then-drop-lt64 c =
    sym (ap (λ (z : ℕ). z % 2 ^ 64) (moved_down c.args.b c.args.n (omega arith) (omega arith)) ∙ mod-eq_of_lt (word_of_digits c.args.b c.args.n (1075 - (c.args.b / H + c.args.n))))

pub returns-else-drop-lt64 : goal.returns-else-drop-lt64
returns-else-drop-lt64 c = ap (λ (z : ℕ). z % 2 ^ 64) (sym (vanished c.args.b c.args.n (omega arith) (omega arith)))
