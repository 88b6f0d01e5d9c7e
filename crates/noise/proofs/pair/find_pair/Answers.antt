-- `find_pair` meets its contract: at each turn, the tries that are left find what all of them find. Assumes nothing.
use mathlib.Core.Path.{◌≡◌, sym, ap, ◌∙◌}
use mathlib.Core.Bool.{true, false}
use Prim.Native.Nat.{ℕ, ◌-◌, ◌≤◌}
use native.Mathlib.Omega.{arith}
use Rattle.std.specs.Prelude.{Some}
use Rattle.noise.specs.Draw.{try_of, accepted}
use Rattle.noise.specs.Noise.{found_of}
use Rattle.noise.specs.declared.draw.Try.{Try}
use Rattle.noise.proofs.NoiseLaws.{found_first, found_later}
use Rattle.noise.proofs.pair.find_pair.Goals as goal

found_at : (left next : ℕ) → 1 ≤ left → accepted (try_of next) ≡ true → found_of left next ≡ Some (try_of next)
found_at left next h e = ap (λ (n : ℕ). found_of n next) (omega arith) ∙ found_first (left - 1) next e

not_found_at : (left next : ℕ) → 1 ≤ left → accepted (try_of next) ≡ false → found_of left next ≡ found_of (left - 1) (try_of next).next
not_found_at left next h e = ap (λ (n : ℕ). found_of n next) (omega arith) ∙ found_later (left - 1) next e

pub loop-left-preserved : goal.loop-left-preserved
loop-left-preserved c =
    let no : accepted (try_of c.loop-left.next) ≡ false = ap accepted (sym c.attempt-t.ensures) ∙ sym c.strictly_within.ensures ∙ c.if-strictly_within.false in
    ap (λ (t : Try). found_of (c.loop-left.left - 1) t.next) c.attempt-t.ensures ∙ sym (not_found_at c.loop-left.left c.loop-left.next (omega (arith, c.if-left-eq0.false)) no) ∙ c.loop-left.invariant

pub returns-then-left-eq0 : goal.returns-then-left-eq0
unfolding found_of
returns-then-left-eq0 c =
    ap (λ (n : ℕ). found_of n c.loop-left.next) (sym c.if-left-eq0.true) ∙ c.loop-left.invariant

pub returns-then-strictly_within : goal.returns-then-strictly_within
returns-then-strictly_within c =
    let yes : accepted (try_of c.loop-left.next) ≡ true = ap accepted (sym c.attempt-t.ensures) ∙ sym c.strictly_within.ensures ∙ c.if-strictly_within.true in
    ap Some c.attempt-t.ensures ∙ sym (found_at c.loop-left.left c.loop-left.next (omega (arith, c.if-left-eq0.false)) yes) ∙ c.loop-left.invariant
