-- What the crates above may take from exp: the band of document 01, and from it, that from -708 to 709 the answer is a number above zero, and in any case a float that binary64 holds. Assumes nothing.
use Rattle.std.proofs.Common.{◌≡◌, ℕ, ◌+◌, ◌*◌, ◌^◌, ◌≤◌, Bool, true, false, cond, ◌&&◌, ◌||◌, T, eqb, ltb, ◌⊎◌, sym, refl, inl, inr, le_of_eq, le_of_lt, arith, eqb→eq, ltb→lt, le-ltb}
use lib.Ieee.{Float, nan, inf, fin, binary64, fits, up, down, lt, le, is_nan, below, level, mul}
use lib.Ieee.Bits.{of_bits-fits}
use lib.Ieee.Fits.{and_l, and_r, cond-fits, nan-fits, inf-fits, mul-fits}
use lib.Ieee.Positive.{positive}
use Rattle.number.specs.F64.{0f, −◌}
use Rattle.number.specs.Range.{finite, is_within}
use Rattle.elementary.specs.Band.{sign_of}
use Rattle.elementary.specs.Exact.{709f, 708f, exp_turns, ExpAnswer}
use Rattle.exponential.specs.Exp.{units, multiples, power_of_two, rest_of, inside_of, exp_of, sum_at}
use Rattle.exponential.proofs.Powers.{field}
use Rattle.exponential.proofs.Answers.{meets}

-- the answer is the document's, for every f64
pub exp_answer : (x : Float) → T (fits binary64 x) → ExpAnswer x (exp_of x)
exp_answer = meets

-- ---- binary64 holds the answer
inside_fits : (s : Bool) (u k : ℕ) → T (fits binary64 (inside_of s u k))
unfolding inside_of power_of_two
inside_fits s u k =
    cond-fits binary64 (eqb u (multiples (2 * k))) (power_of_two s k) (mul binary64 (sum_at (rest_of s u (multiples (2 * k)))) (power_of_two s k)) (of_bits-fits binary64 (field s k * 2 ^ 52)) (mul-fits binary64 (sum_at (rest_of s u (multiples (2 * k)))) (power_of_two s k))

pub exp_fits : (x : Float) → T (fits binary64 (exp_of x))
unfolding exp_of
exp_fits x =
    let y = inside_of (sign_of x) (units x) (exp_turns x) in
    let z = cond (lt x (− 708f)) 0f y in
    cond-fits binary64 (is_nan x) nan (cond (lt 709f x) (inf false) z) (nan-fits binary64)
    (cond-fits binary64 (lt 709f x) (inf false) z (inf-fits binary64 false) (cond-fits binary64 (lt x (− 708f)) 0f y (of_bits-fits binary64 0) (inside_fits (sign_of x) (units x) (exp_turns x))))

-- ---- what is at most y is not above it
either : (a b : Bool) → T (a || b) → T a ⊎ T b
either true b t = inl tt
either false b t = inr t

at_most : (a b : ℕ) → T (ltb a b || (eqb a b && true)) → a ≤ b
at_most a b t = elim (either (ltb a b) (eqb a b && true) t) [ inl h ↦ le_of_lt (ltb→lt a b h) | inr h ↦ le_of_eq (eqb→eq a b (and_l (eqb a b) true h)) ]

by_size : (s t : Bool) (a b : ℕ) → T (below s a t b || level s a t b) → below t b s a ≡ false
by_size false false a b h = le-ltb b a (at_most a b h)
by_size false true a b h = le-ltb 0 (b + a) (go (eqb→eq a b (and_l (eqb a b) (eqb a 0) h)) (eqb→eq a 0 (and_r (eqb a b) (eqb a 0) h)))
  where
    go : a ≡ b → a ≡ 0 → b + a ≤ 0
    go e z = omega arith
by_size true false a b h = refl
by_size true true a b h = le-ltb a b (elim (either (ltb b a) (eqb a b && true) h) [ inl l ↦ le_of_lt (ltb→lt b a l) | inr l ↦ le_of_eq (sym (eqb→eq a b (and_l (eqb a b) true l))) ])

not_above : (x y : Float) → T (le x y) → (lt y x ≡ false) × (is_nan x ≡ false)
unfolding le is_nan
not_above nan y h = absurd h
not_above (inf s) nan h = absurd h
not_above (inf false) (inf false) h = (refl, refl)
not_above (inf false) (inf true) h = absurd h
not_above (inf true) (inf false) h = (refl, refl)
not_above (inf true) (inf true) h = (refl, refl)
not_above (inf false) (fin t n d) h = absurd h
not_above (inf true) (fin t n d) h = (refl, refl)
not_above (fin s m e) nan h = absurd h
not_above (fin s m e) (inf false) h = (refl, refl)
not_above (fin s m e) (inf true) h = absurd h
not_above (fin s m e) (fin t n d) h = (by_size s t (m * up e * down d) (n * up d * down e) h, refl)

-- ---- from -708 to 709
pub exp_positive : (x y : Float) → T (is_within x (− 708f) 709f) → ExpAnswer x y → T (positive y)
unfolding ExpAnswer
exp_positive x y h a =
    let l = not_above (− 708f) x (and_l (le (− 708f) x) (le x 709f) h) in
    let u = not_above x 709f (and_r (le (− 708f) x) (le x 709f) h) in
    (rw (u.1, u.0, l.0) at a).1

pub exp_finite : (x y : Float) → T (is_within x (− 708f) 709f) → ExpAnswer x y → T (finite y)
exp_finite x y h a = go y (exp_positive x y h a)
  where
    go : (y : Float) → T (positive y) → T (finite y)
    go nan p = p
    go (inf s) p = p
    go (fin s m e) p = tt
