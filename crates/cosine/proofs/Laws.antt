-- What the crates above may take from the cosine: the band of document 01; inside exactly where the argument is, and then a number from -1 to 1 that binary64 holds. Assumes nothing.
use Rattle.std.specs.Prelude.{Result, Ok, Err}
use Rattle.std.proofs.Common.{◌≡◌, ℕ, ◌+◌, ◌-◌, ◌*◌, ◌/◌, ◌^◌, ◌≤◌, Bool, true, false, cond, not, T, ltb, sym, refl, subst, mul-le-mul_right, div-mul-le_self, le_of_mul-le-mul_right, arith, lit<, lit≤, ltb-false, ltb-true}
use lib.Ieee.{Float, nan, inf, fin, binary64, fits, neg, up, down}
use lib.Ieee.Bits.{is_true, is_false}
use lib.Ieee.Exact.{HasValue}
use lib.Ieee.Fits.{round-fits, neg-fits, cond-fits}
use lib.Ieee.Positive.{num, den}
use Rattle.number.specs.Range.{finite}
use Rattle.elementary.specs.Exact.{cos_inside, CosAnswer}
use Rattle.cosine.specs.Cos.{one, units_of, rest_of, fall_of, float_of, one_less, cos_inside_of, cos_of}
use Rattle.cosine.proofs.Steps.{square_small}
use Rattle.cosine.proofs.Reduced.{angle}
use Rattle.cosine.proofs.Value.{fall_is}
use Rattle.cosine.proofs.Answers.{float_value}
use Rattle.cosine.proofs.Bounded.{fall_most}
use Rattle.cosine.proofs.Meets.{inside_bound, inside_near, opened, meets}
use Rattle.cosine.proofs.Inside.{chosen, answer_outside}
use Rattle.elementary.specs.declared.answer.Outside.{Outside}

-- the answer is the document's, for every float
pub cos_answer : (x : Float) → CosAnswer x (cos_of x)
cos_answer = meets

-- ---- from -1 to 1
at_most_one : (z : Float) (n : ℕ) → HasValue z false n (2 ^ 51) → n ≤ 2 ^ 51 → (num z ≤ den z) × (num (neg z) ≤ den (neg z))
unfolding neg
at_most_one nan n v h = absurd v
at_most_one (inf s) n v h = absurd v
at_most_one (fin s m e) n v h = let l : m * up e ≤ down e = le_of_mul-le-mul_right {k = 2251799813685248} (go (m * up e) (down e) v.1) (lit< tt) in (l, l)
  where
    go : (a d : ℕ) → a * 2251799813685248 ≡ n * d → a * 2251799813685248 ≤ d * 2251799813685248
    go a d e = omega (arith, mul-le-mul_right d h)

one_less_most : (q : ℕ) → q ≤ 2 * one + 38 → num (one_less q) ≤ den (one_less q)
unfolding one_less
one_less_most q h = go (ltb one q) refl
  where
    go : (t : Bool) → ltb one q ≡ t → let y = cond t (neg (float_of (q - one))) (float_of (one - q)) in num y ≤ den y
    go true e = let l = ltb-true one q e in (at_most_one (float_of (q - one)) ((q - one + 128) / 256) (float_value (q - one) (omega arith)) (omega arith)).1
    go false e = let l = ltb-false one q e in (at_most_one (float_of (one - q)) ((one - q + 128) / 256) (float_value (one - q) (omega arith)) (omega arith)).0

fall_small : (r : ℕ) → 20 * r ≤ 63 * one → fall_of r ≤ 2 * one + 38
fall_small r h = subst (λ (z : ℕ). z ≤ 2 * one + 38) (sym (fall_is r)) (fall_most (r * r / one) (square_small one r (r * r / one) (lit≤ tt) h (div-mul-le_self (r * r) one)))

-- ---- binary64 holds it
float_fits : (n : ℕ) → T (fits binary64 (float_of n))
unfolding float_of
float_fits n = round-fits binary64 false ((n + 128) / 256) (2 ^ 51)

one_less_fits : (q : ℕ) → T (fits binary64 (one_less q))
unfolding one_less
one_less_fits q = cond-fits binary64 (ltb one q) (neg (float_of (q - one))) (float_of (one - q)) (neg-fits binary64 (float_of (q - one)) (float_fits (q - one))) (float_fits (one - q))

-- ---- the laws
pub record Cosine (r : Result Float Outside) : Type 0 where
  pub number : Float
  pub is : r ≡ Ok number
  pub finite_number : T (finite number)
  pub at_most_1 : num number ≤ den number
  pub held : T (fits binary64 number)

pub cos_inside_lem : (x : Float) → T (cos_inside x) → Cosine (cos_of x)
cos_inside_lem x t = record {
  number = cos_inside_of x;
  is = sym (chosen x (is_true (cos_inside x) t));
  finite_number = (inside_near x t).0;
  at_most_1 = subst (λ (y : Float). num y ≤ den y) (opened x) (one_less_most (fall_of r) (fall_small r (angle x (inside_bound x t)).small));
  held = subst (λ (y : Float). T (fits binary64 y)) (opened x) (one_less_fits (fall_of r));
}
  where
    r : ℕ
    r = rest_of (units_of x)

pub cos_outside : (x : Float) → T (not (cos_inside x)) → cos_of x ≡ Err (record {})
cos_outside x n = sym (answer_outside x (is_false (cos_inside x) n))
