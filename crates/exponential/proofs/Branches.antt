-- The branches of `exp`: what the tests on the way say of x, and what the bit pattern of an x inside the range is. Assumes nothing.
use Rattle.std.proofs.Common.{◌≡◌, ℕ, ◌-◌, ◌*◌, ◌/◌, ◌%◌, ◌^◌, ◌<◌, ◌≤◌, Bool, true, false, cond, T, leb, ℤ, sym, refl, ap, ◌∙◌, subst, le_trans, le_of_eq, mul-le-mul_right, le_of_mul-le-mul_right, arith, lit≤}
use lib.Ieee.Fits.{down_pos}
use lib.Ieee.{Float, nan, inf, fin, binary64, fits, up, down, lt, is_nan, of_bits, to_bits, neg}
use Rattle.number.specs.F64.{0f, −◌}
use Rattle.number.proofs.Floats.{is_the_nan}
use Rattle.root.specs.Parts.{pattern_units}
use Rattle.elementary.specs.Exact.{709f, 708f, ExpAnswer}
use Rattle.elementary.proofs.Patterns.{size_fits, size_bits, sign_bit, pattern_at_most}
use Rattle.exponential.specs.Exp.{units, multiples, inside_of, exp_of}
use Rattle.exponential.proofs.Guess.{Nearest, limit}
use Rattle.exponential.proofs.Scaled.{U, pattern_is, pattern_cross}
use Rattle.exponential.proofs.Reduced.{gap}
use Rattle.exponential.proofs.Answers.{size_most, units_limit, turns, rest_most, meets}

-- the second clause follows from the first
pub answered : (x r : Float) → T (fits binary64 x) → r ≡ exp_of x → (r ≡ exp_of x) × ExpAnswer x r
answered x r f e = (e, subst (ExpAnswer x) (sym e) (meets x f))

-- ---- outside
pub at_nan : (x : Float) → is_nan x ≡ true → x ≡ exp_of x
unfolding exp_of is_nan
at_nan x h = let n : x ≡ nan = is_the_nan x h in subst (λ (z : Float). z ≡ exp_of z) (sym n) refl

module _ (x : Float) (n : is_nan x ≡ false) where
  pub above : lt 709f x ≡ true → inf false ≡ exp_of x
  unfolding exp_of
  above h = rw (n, h) refl

  pub below : lt 709f x ≡ false → lt x (− 708f) ≡ true → 0f ≡ exp_of x
  unfolding exp_of
  below h l = rw (n, h, l) refl

-- ---- inside
pub record Inside (x : Float) : Type 0 where
  pub t : Bool
  pub m : ℕ
  pub e : ℤ
  pub is : x ≡ fin t m e
  pub held : T (fits binary64 (fin t m e))
  pub high : lt 709f (fin t m e) ≡ false
  pub low : lt (fin t m e) (− 708f) ≡ false

pub inside : (x : Float) → T (fits binary64 x) → is_nan x ≡ false → lt 709f x ≡ false → lt x (− 708f) ≡ false → Inside x
unfolding is_nan lt of_bits neg
inside nan f n h l = absurd (let z : ◌≡◌ {A = ℕ} 0 1 = cc in omega arith)
inside (inf false) f n h l = absurd (let z : ◌≡◌ {A = ℕ} 0 1 = cc in omega arith)
inside (inf true) f n h l = absurd (let z : ◌≡◌ {A = ℕ} 0 1 = cc in omega arith)
inside (fin t m e) f n h l = record { t = t; m = m; e = e; is = refl; held = f; high = h; low = l }

limited : (t : Bool) → (709 - cond t 1 0) * 2 ^ 1074 ≤ pattern_units 0x4086_2800_0000_0000
unfolding pattern_units
limited false = lit≤ tt
limited true = lit≤ tt

module _ (x : Float) (i : Inside x) where
  abbrev p : ℕ
  p = to_bits binary64 (fin false i.m i.e)

  held : T (fits binary64 (fin false i.m i.e))
  held = size_fits i.t i.m i.e i.held

  pub bits_are : to_bits binary64 x % 2 ^ 63 ≡ p
  bits_are = ap (λ (z : Float). to_bits binary64 z % 2 ^ 63) i.is ∙ size_bits i.t i.m i.e i.held

  pub sign_is : leb (2 ^ 63) (to_bits binary64 x) ≡ i.t
  sign_is = ap (λ (z : Float). leb (2 ^ 63) (to_bits binary64 z)) i.is ∙ sign_bit i.t i.m i.e i.held

  -- the pattern of 709 is the last
  pub bits_most : to_bits binary64 x % 2 ^ 63 ≤ 0x4086_2800_0000_0000
  bits_most =
      le_trans (le_of_eq bits_are)
      (pattern_at_most p 0x4086_2800_0000_0000
      (le_trans
      (at_most (i.m * up i.e) (down i.e) (pattern_units p) (709 - cond i.t 1 0) (2 ^ 1074) (down_pos i.e) (pattern_cross i.m i.e held) (size_most i.t i.m i.e i.held i.high i.low))
      (limited i.t)))
    where
      at_most : (a d u c t : ℕ) → 0 < d → a * t ≡ u * d → a ≤ c * d → u ≤ c * t
      at_most a d u c t q e h = le_of_mul-le-mul_right {k = d} (omega (arith, mul-le-mul_right t h)) q

  pub units_are : pattern_units (to_bits binary64 x % 2 ^ 63) / 2 ^ 1020 ≡ units x
  unfolding units
  units_are = ap (λ (b : ℕ). pattern_units b / 2 ^ 1020) bits_are ∙ pattern_is i.m i.e held ∙ ap units (sym i.is)

  pub units_small : units x ≤ limit
  units_small = subst (λ (z : Float). units z ≤ limit) (sym i.is) (units_limit i.t i.m i.e i.held i.high i.low)

  module _ (k : ℕ) (n : Nearest (units x) k) where
    n' : Nearest (units (fin i.t i.m i.e)) k
    n' = subst (λ (z : Float). Nearest (units z) k) i.is n

    pub rest_small : gap (units x) (multiples (2 * k)) ≤ 2 ^ 53
    rest_small = subst (λ (z : Float). gap (units z) (multiples (2 * k)) ≤ 2 ^ 53) (sym i.is) (go (gap (units (fin i.t i.m i.e)) (multiples (2 * k))) (rest_most i.t i.m i.e i.held i.high i.low k n'))
      where
        go : (g : ℕ) → 20 * g ≤ 7 * U → g ≤ 2 ^ 53
        go g h = omega arith

    pub inside_is : inside_of i.t (units x) k ≡ exp_of x
    unfolding exp_of is_nan
    inside_is =
        subst (λ (z : Float). inside_of i.t (units z) k ≡ exp_of z) (sym i.is) (rw (i.high, i.low) (ap (inside_of i.t (units (fin i.t i.m i.e))) (sym (turns i.t i.m i.e i.held i.high i.low k n'))))
