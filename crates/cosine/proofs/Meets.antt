-- The definition that the code follows answers as document 01 asks. Assumes nothing.
use Rattle.std.proofs.Common.{◌≡◌, ℕ, ◌*◌, ◌/◌, ◌^◌, ◌≤◌, Bool, true, false, ◌&&◌, ◌||◌, T, eqb, ltb, pos, sym, refl, ap, ◌∙◌, subst, le_of_eq, le_of_lt, arith, eqb→eq, ltb→lt}
use mathlib.Core.Bool.{beq}
use native.Mathlib.Nat.{zero-div}
use lib.Ieee.{Float, nan, inf, fin, up, down, le, lt, eq, neg, of_bits, round}
use lib.Ieee.Fits.{and_l, and_r}
use lib.Ieee.Positive.{num, den}
use Rattle.number.specs.F64.{0f, 1f}
use Rattle.number.specs.Range.{finite}
use Rattle.elementary.specs.Band.{value_of, Within, Says}
use Rattle.elementary.specs.Exact.{cos_inside, cos_value, CosAnswer}
use Rattle.cosine.specs.Cos.{units_of, rest_of, fall_of, one_less, cos_inside_of, answer, cos_of}
use Rattle.cosine.proofs.Reduced.{angle}
use Rattle.cosine.proofs.Value.{fall}
use Rattle.cosine.proofs.Answers.{fall_small, near_one_less}

-- ---- inside, a float is a number up to 2 ^ 20 in size
either : (a b : ℕ) (t : Bool) → T (ltb a b || t) → (T t → a ≤ b) → a ≤ b
either a b t h k = go (ltb a b) h (λ l. le_of_lt (ltb→lt a b l))
  where
    go : (c : Bool) → T (c || t) → (T c → a ≤ b) → a ≤ b
    go true h l = l tt
    go false h l = k h

pub inside_bound : (x : Float) → T (cos_inside x) → num x ≤ 2 ^ 20 * den x
unfolding le lt eq neg of_bits
inside_bound nan h = absurd h
inside_bound (inf true) h = absurd h
inside_bound (inf false) h = absurd h
inside_bound (fin false m e) h =
    let a = m * up e in
    let b = 1 * 2 ^ 20 * down e in
    let l : a * 1 ≤ b = either (a * 1) b (eqb (a * 1) b && true) (and_r (le (fin true 1 (pos 20)) (fin false m e)) (le (fin false m e) (fin false 1 (pos 20))) h) (λ q. le_of_eq (eqb→eq (a * 1) b (and_l (eqb (a * 1) b) true q))) in
    omega arith
inside_bound (fin true m e) h =
    let a = m * up e in
    let b = 1 * 2 ^ 20 * down e in
    let l : a * 1 ≤ b = either (a * 1) b (eqb b (a * 1) && true) (and_l (le (fin true 1 (pos 20)) (fin true m e)) (le (fin true m e) (fin false 1 (pos 20))) h) (λ q. le_of_eq (sym (eqb→eq b (a * 1) (and_l (eqb b (a * 1)) true q)))) in
    omega arith

-- ---- at the zeros
zero_num : (x : Float) → T (eq x 0f) → num x ≡ 0
unfolding eq of_bits
zero_num nan h = absurd h
zero_num (inf s) h = absurd h
zero_num (fin s m e) h = let l : m * up e * 1 ≡ 0 * 1 * down e = eqb→eq (m * up e * 1) (0 * 1 * down e) (and_l (eqb (m * up e * 1) (0 * 1 * down e)) (beq s false || eqb (m * up e * 1) 0) h) in omega arith

at_zero : (x : Float) → T (eq x 0f) → cos_inside_of x ≡ 1f
unfolding cos_inside_of round of_bits
at_zero x h = ap (λ (u : ℕ). one_less (fall_of (rest_of u))) (ap (λ (a : ℕ). a * 2 ^ 59 / den x) (zero_num x h) ∙ zero-div (den x))

-- ---- the whole
pub opened : (x : Float) → one_less (fall_of (rest_of (units_of x))) ≡ cos_inside_of x
unfolding cos_inside_of
opened x = refl

pub inside_near : (x : Float) → T (cos_inside x) → T (finite (cos_inside_of x)) × Within 44 (value_of (cos_inside_of x)) (cos_value x)
inside_near x t =
    let b = inside_bound x t in
    subst (λ (y : Float). T (finite y) × Within 44 (value_of y) (cos_value x)) (opened x) (near_one_less (fall_of (rest_of (units_of x))) (cos_value x) (fall_small (rest_of (units_of x)) (angle x b).small) (fall x b))

pub meets : (x : Float) → CosAnswer x (cos_of x)
unfolding CosAnswer cos_of
meets x = go (cos_inside x) refl
  where
    go : (t : Bool) → cos_inside x ≡ t → Says t (λ y. (T (eq x 0f) → y ≡ 1f) × Within 44 (value_of y) (cos_value x)) (answer t (cos_inside_of x))
    go false e = tt
    go true e = let n = inside_near x (subst T (sym e) tt) in (tt, n.0, (at_zero x, n.1))
