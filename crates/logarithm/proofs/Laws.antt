-- What the crates above may take from the logarithm: the band of document 01; inside exactly where x is normal, positive and finite; a finite number that binary64 holds; its sign; and that the exact one
-- is taken apart as document 01 says. Assumes nothing.
use Rattle.std.specs.Prelude.{Result, Ok, Err}
use mathlib.Core.Path.{◌≡◌, refl, sym, ap, ◌∙◌, subst}
use mathlib.Core.Bool.{Bool, true, false, not, cond}
use Prim.Native.Nat.{ℕ, ◌*◌, ◌≤◌, ◌<◌}
use native.Mathlib.Nat.{le_of_lt}
use borrow.Author.Tests.{le-ltb}
use native.Mathlib.Omega.{arith}
use lib.IntN.{pos}
use lib.Dec.{T, ltb→lt}
use lib.Ieee.{Float, binary64, fits, eq, lt, of_int, to_bits, of_bits}
use lib.Ieee.Bits.{is_true}
use lib.Ieee.Fits.{cond-fits, add-fits, mul-fits}
use lib.Ieee.Positive.{num, den, positive}
use Rattle.number.specs.F64.{◌⊕◌, ◌⊖◌, −◌, 0f, 1f}
use Rattle.elementary.specs.Band.{value_of, WithinOfIt}
use Rattle.elementary.specs.Exact.{ln_inside, ln_part, ln_value, LnAnswer}
use Rattle.elementary.proofs.Signs.{neg_neg}
use Rattle.elementary.proofs.FloatChain.{turned}
use Rattle.elementary.proofs.Answers.{Number, inside_has_number, outside_says_so}
use Rattle.logarithm.specs.Ln.{field, part, 1023f, Lf, turns, near_one, of_pattern, ln_of}
use Rattle.logarithm.proofs.Inside.{normal_above}
use Rattle.logarithm.proofs.Cases.{one_only}
use Rattle.logarithm.proofs.Sign.{below_is, above_is}
use Rattle.logarithm.proofs.Found.{Found, other, none, found, part_range, meets}
use Rattle.elementary.specs.declared.answer.Outside.{Outside}

-- the answer is the document's, for every f64
pub ln_answer : (x : Float) → T (fits binary64 x) → LnAnswer x (ln_of x)
ln_answer = meets

-- where x is inside, the answer is a number, finite and near; where it is not, it says so
pub ln_number : (x : Float) (r : Result Float Outside) → LnAnswer x r → T (ln_inside x) → Number (λ (y : Float). (T (eq x 1f) → y ≡ 0f) × WithinOfIt 48 (value_of y) (ln_value x)) r
unfolding LnAnswer
ln_number x r = inside_has_number (ln_inside x) (λ (y : Float). (T (eq x 1f) → y ≡ 0f) × WithinOfIt 48 (value_of y) (ln_value x)) r

pub ln_outside : (x : Float) (r : Result Float Outside) → LnAnswer x r → T (not (ln_inside x)) → r ≡ Err (record {})
unfolding LnAnswer
ln_outside x r = outside_says_so (ln_inside x) (λ (y : Float). (T (eq x 1f) → y ≡ 0f) × WithinOfIt 48 (value_of y) (ln_value x)) r

-- ---- of the number y that lnOf gives
-- it is that of x's pattern
taken : (x y : Float) → ln_of x ≡ Ok y → T (ln_inside x) × (of_pattern (to_bits binary64 x) ≡ y)
unfolding ln_of
taken x y = go (ln_inside x)
  where
    go : (c : Bool) → cond {A = Result Float Outside} c (Ok (of_pattern (to_bits binary64 x))) (Err (record {})) ≡ Ok y → T c × (of_pattern (to_bits binary64 x) ≡ y)
    go true e = (tt, cc)
    go false e = absurd (let z : ◌≡◌ {A = ℕ} 0 1 = cc in omega arith)

pub ln_fits : (x y : Float) → ln_of x ≡ Ok y → T (fits binary64 y)
unfolding of_pattern turns
ln_fits x y e =
    let b = to_bits binary64 x in
    subst (λ (z : Float). T (fits binary64 z)) (taken x y e).1
    (cond-fits binary64 (eq (of_bits binary64 (part b)) 1f) (turns (field b)) (turns (field b) ⊕ near_one (of_bits binary64 (part b))) (mul-fits binary64 (of_int binary64 (pos (field b)) ⊖ 1023f) Lf) (add-fits binary64 (turns (field b)) (near_one (of_bits binary64 (part b)))))

-- but for x = 1 its sign tells whether x is below 1
twice : (s : Bool) (z : Float) → turned s (turned s z) ≡ z
twice false z = refl
twice true z = neg_neg z

signed : (x y : Float) → T (fits binary64 x) → ln_of x ≡ Ok y → (T (eq x 1f) → ⊥) → T (positive (turned (lt x 1f) y))
signed x y f e n = subst (λ (z : Float). T (positive (turned (lt x 1f) z))) (taken x y e).1 (go (of_pattern (to_bits binary64 x)) (found x f (taken x y e).0))
  where
    go : (z : Float) → Found x z → T (positive (turned (lt x 1f) z))
    go z (other h) = subst (λ (w : Float). T (positive w)) (sym (ap (turned (lt x 1f)) h.is ∙ twice (lt x 1f) h.z)) h.close.above
    go z (none o e w) = absurd (n o)

below_not_one : T (lt 1f 1f) → ⊥
unfolding lt of_bits
below_not_one t = t

pub ln_below : (x y : Float) → T (fits binary64 x) → ln_of x ≡ Ok y → T (lt x 1f) → T (positive (− y))
ln_below x y f e t =
    subst (λ (s : Bool). T (positive (turned s y))) (is_true (lt x 1f) t)
    (signed x y f e (λ (o : T (eq x 1f)). below_not_one (subst (λ (z : Float). T (lt z 1f)) (one_only x f (normal_above x (taken x y e).0) o) t)))

pub ln_above : (x y : Float) → T (fits binary64 x) → ln_of x ≡ Ok y → T (lt 1f x) → T (positive y)
ln_above x y f e t =
    let p : T (positive x) = normal_above x (taken x y e).0 in
    let a : den x < num x = ltb→lt (den x) (num x) (subst T (above_is x p) t) in
    subst (λ (s : Bool). T (positive (turned s y))) (below_is x p ∙ le-ltb (num x) (den x) (le_of_lt a))
    (signed x y f e (λ (o : T (eq x 1f)). below_not_one (subst (λ (z : Float). T (lt 1f z)) (one_only x f p o) t)))

-- ---- of the exact value: m is from 3/4 up and below 3/2
pub ln_part_lem : (x : Float) → T (fits binary64 x) → T (ln_inside x) → (3 * (ln_part x).under ≤ 4 * (ln_part x).over.plus) × (2 * (ln_part x).over.plus < 3 * (ln_part x).under)
ln_part_lem x f i = part_range x f i
