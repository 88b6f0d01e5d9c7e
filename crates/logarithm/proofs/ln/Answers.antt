-- `ln` meets its contract, branch by branch. Assumes nothing.
use Rattle.std.specs.Prelude.{Result, Err}
use mathlib.Core.Path.{◌≡◌, refl, sym, subst}
use mathlib.Core.Bool.{true, false}
use lib.Dec.{T}
use lib.Ieee.{Float, binary64, fits, of_bits, div}
use Rattle.elementary.specs.Exact.{ln_inside, LnAnswer}
use Rattle.logarithm.specs.Ln.{ln_of}
use Rattle.logarithm.proofs.Inside.{inside, outside_below, outside_above}
use Rattle.logarithm.proofs.Found.{meets}
use Rattle.logarithm.proofs.ln.Goals as goal
use Rattle.logarithm.proofs.ln.Goals.{Start, Then-x-2}
use Rattle.elementary.specs.declared.answer.Outside.{Outside}

held : (c : Start) → T (fits binary64 c.args.x)
held c = subst T (sym c.well_formed.0.1) tt

-- where both tests pass it is inside
within : (c : Then-x-2) → ln_inside c.args.x ≡ true
unfolding of_bits div
within c = inside c.args.x c.if-x.true c.if-x-2.true

within_T : (c : Then-x-2) → T (ln_inside c.args.x)
within_T c = subst T (sym (within c)) tt

pub ln_inside-requires : goal.ln_inside-requires
ln_inside-requires c = within_T c

-- the second clause follows from the first
answered : (x : Float) (r : Result Float Outside) → T (fits binary64 x) → r ≡ ln_of x → (r ≡ ln_of x) × LnAnswer x r
answered x r f e = (e, subst (LnAnswer x) (sym e) (meets x f))

at_outside : (x : Float) → ln_inside x ≡ false → Err (record {}) ≡ ln_of x
unfolding ln_of
at_outside x e = rw e refl

pub returns-else-x-2 : goal.returns-else-x-2
unfolding of_bits div
returns-else-x-2 c =
    let r = answered c.args.x (Err (record {})) (held (goal.at.returns-else-x-2 c).Start) (at_outside c.args.x (outside_above c.args.x c.if-x.true c.if-x-2.false)) in
    record { value = r.0; ln_answer = r.1 }

pub returns-else-x : goal.returns-else-x
returns-else-x c =
    let r = answered c.args.x (Err (record {})) (held (goal.at.returns-else-x c).Start) (at_outside c.args.x (outside_below c.args.x c.if-x.false)) in
    record { value = r.0; ln_answer = r.1 }
