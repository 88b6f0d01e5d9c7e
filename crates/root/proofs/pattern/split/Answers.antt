-- `split` meets its contract, below the normal patterns and among them. Assumes nothing.
use Rattle.std.proofs.Common.{ℕ, ◌-◌, ◌*◌, ◌^◌, ◌<◌, ◌≤◌, sym, ap, ◌∙◌, subst, arith}
use lib.Count.{count_leading_zeros}
use Rattle.root.proofs.Parts.{H, Shift, shift, shifted, subnormal_split, normal_split}
use Rattle.root.proofs.pattern.split.Goals as goal
use Rattle.root.proofs.pattern.split.Goals.{Then-b-lt4503599627370496}

zeros : (c : Then-b-lt4503599627370496) → Shift c.args.b
zeros c = shift c.args.b c.requires.0 c.if-b-lt4503599627370496.true

pub overflow_sub-z : goal.overflow_sub-z
overflow_sub-z c = (zeros c).eleven

pub even-requires : goal.even-requires
even-requires c =
    let s = zeros c in
    (subst (λ (z : ℕ). H ≤ z) (sym (shifted c.args.b s)) s.least, subst (λ (z : ℕ). z < 2 ^ 53) (sym (shifted c.args.b s)) s.most, omega arith)

pub returns-then-b-lt4503599627370496 : goal.returns-then-b-lt4503599627370496
returns-then-b-lt4503599627370496 c =
    let s = zeros (goal.at.returns-then-b-lt4503599627370496 c).Then-b-lt4503599627370496 in
    subnormal_split c.args.b c.even.result.m c.even.result.j (count_leading_zeros 64 c.args.b - 11) c.if-b-lt4503599627370496.true s.small (c.even.ensures.0 ∙ ap (λ (z : ℕ). z * 2 ^ (54 - (count_leading_zeros 64 c.args.b - 11))) (shifted c.args.b s)) c.even.ensures.1 c.even.ensures.2 c.even.ensures.3

pub returns : goal.returns
returns c =
    normal_split c.args.b c.even-2.result.m c.even-2.result.j c.if-b-lt4503599627370496.false c.even-2.ensures.0 c.even-2.ensures.1 c.even-2.ensures.2 c.even-2.ensures.3
