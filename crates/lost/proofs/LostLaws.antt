-- Whatever is up to b in size is lost where b is: a product of two numbers up to theirs is up to the product of these. Assumes nothing.
use mathlib.Core.Path.{◌≡◌, refl, sym, ap, subst, ◌∙◌}
use mathlib.Core.Bool.{Bool, true, false, ◌&&◌, ◌||◌, cond, false≢true}
use mathlib.Core.Logic.{◌⊎◌, inl, inr}
use Prim.Native.Nat.{ℕ, zero, suc, ◌+◌, ◌-◌, ◌*◌, ◌^◌, ◌≤◌, ◌<◌}
use native.Mathlib.Nat.{le_of_lt, le_of_eq, eq-or-lt_of_le, mul-pos, mul-le-mul, mul-le-mul_right, mul-lt-mul_of_pos_right, lt_of_mul-lt-mul_right, sub-add_cancel}
use native.Mathlib.Omega.{arith}
use borrow.Author.Tests.{lt-ltb, le-ltb}
use lib.IntN.{ℤ}
use lib.Pow.{pow_pos}
use lib.Dec.{T, ltb, eqb, ltb→lt, lt→ltb, eqb→eq}
use lib.Ieee.{Float, nan, inf, fin, binary64, fits, up, down, unlike, odd, units, round, neg, sum, add, mul, lt, le, eq, of_bits, to_bits}
use lib.Ieee.Fits.{round_is, down_pos, neg-fits}
use lib.Ieee.Exact.{HasValue}
use lib.Ieee.Order.{drop, kept, transfer, round_mono}
use lib.Ieee.Positive.{num, den, den_pos, positive, first_pos}
use Rattle.number.specs.F64.{◌⊕◌, ◌⊖◌, ◌⊗◌, 0f}
use Rattle.root.specs.Parts.{pattern_units}
use Rattle.root.proofs.Floats.{INF, pattern_value, pattern_order}
use Rattle.elementary.proofs.Patterns.{size_cross}
use Rattle.elementary.proofs.Signs.{neg_neg, round_neg}
use Rattle.lost.specs.Lost.{pattern_of, UpTo, lost_in}
use Rattle.lost.proofs.SqueezeLaws.{squeezed}

-- t is finite, and up to b in size
abbrev Under : Float → Float → Type 0
Under nan b = ⊥
Under (inf s) b = ⊥
Under (fin s n d) b = n * up d * den b ≤ num b * down d

-- ---- what is up to b is lost

-- the two inequalities of a squeeze, for the sum and for the difference of a = m / e and t = n / d, where t is up to b = k / g
module _ (m e k g n d : ℕ) (under : n * g ≤ k * d) where
  wider : n * g * (e * e) ≤ k * d * (e * e)
  wider = mul-le-mul_right (e * e) under

  sum_low : k * e ≤ m * g → (m * g - k * e) * (e * d) ≤ (m * d + n * e) * (e * g)
  sum_low h = go (m * g - k * e) (sub-add_cancel h)
    where
      go : (r : ℕ) → r + k * e ≡ m * g → r * (e * d) ≤ (m * d + n * e) * (e * g)
      go r f = omega (arith, ap (λ (z : ℕ). z * (e * d)) f)

  sum_high : (m * d + n * e) * (e * g) ≤ (m * g + k * e) * (e * d)
  sum_high = omega (arith, wider)

  module _ (fits : n * e ≤ m * d) where
    difference_low : k * e ≤ m * g → (m * g - k * e) * (e * d) ≤ (m * d - n * e) * (e * g)
    difference_low h = go (m * g - k * e) (m * d - n * e) (sub-add_cancel h) (sub-add_cancel fits)
      where
        go : (r s : ℕ) → r + k * e ≡ m * g → s + n * e ≡ m * d → r * (e * d) ≤ s * (e * g)
        go r s f h = omega (arith, wider, ap (λ (z : ℕ). z * (e * d)) f, ap (λ (z : ℕ). z * (e * g)) h)

    difference_high : (m * d - n * e) * (e * g) ≤ (m * g + k * e) * (e * d)
    difference_high = go (m * d - n * e) (sub-add_cancel fits)
      where
        go : (s : ℕ) → s + n * e ≡ m * d → s * (e * g) ≤ (m * g + k * e) * (e * d)
        go s f = omega (arith, ap (λ (z : ℕ). z * (e * g)) f)

-- t is smaller than a
smaller : (m e k g n d : ℕ) → 0 < g → 0 < d → n * g ≤ k * d → k * e < m * g → n * e < m * d
smaller m e k g n d G D h less = lt_of_mul-lt-mul_right g (omega (arith, mul-le-mul_right e h, mul-lt-mul_of_pos_right less D))

module _ (m : ℕ) (e : ℤ) (b : Float) (fa : T (fits binary64 (fin false m e))) (pa : T (positive (fin false m e))) (pb : T (positive b)) (less : num b * down e < m * up e * den b)
    (more : T (le (fin false m e ⊕ b) (fin false m e))) (fewer : T (le (fin false m e) (fin false m e ⊖ b))) where
  abbrev own : Float
  own = fin false m e

  module _ (n : ℕ) (d : ℤ) (under : n * up d * den b ≤ num b * down d) where
    below : n * up d * down e < m * up e * down d
    below = smaller (m * up e) (down e) (num b) (den b) (n * up d) (down d) (den_pos b) (down_pos d) under less

    both_sum : round binary64 false (m * up e * down d + n * up d * down e) (down e * down d) ≡ own
    both_sum =
        squeezed own b fa pa pb less more fewer (m * up e * down d + n * up d * down e) (down e * down d) (mul-pos (down_pos e) (down_pos d))
        (sum_low (m * up e) (down e) (num b) (den b) (n * up d) (down d) under (le_of_lt less)) (sum_high (m * up e) (down e) (num b) (den b) (n * up d) (down d) under)

    both_difference : round binary64 false (m * up e * down d - n * up d * down e) (down e * down d) ≡ own
    both_difference =
        squeezed own b fa pa pb less more fewer (m * up e * down d - n * up d * down e) (down e * down d) (mul-pos (down_pos e) (down_pos d))
        (difference_low (m * up e) (down e) (num b) (den b) (n * up d) (down d) under (le_of_lt below) (le_of_lt less)) (difference_high (m * up e) (down e) (num b) (den b) (n * up d) (down d) under (le_of_lt below))

    plus_lost : (s : Bool) → own ⊕ fin s n d ≡ own
    unfolding add sum
    plus_lost false = both_sum
    plus_lost true = rw (le-ltb (m * up e * down d) (n * up d * down e) (le_of_lt below)) both_difference

    minus_lost : (s : Bool) → fin true m e ⊕ fin s n d ≡ fin true m e
    unfolding add sum neg
    minus_lost true = round_neg false (m * up e * down d + n * up d * down e) (down e * down d) ∙ ap neg both_sum
    minus_lost false =
        rw (le-ltb (m * up e * down d) (n * up d * down e) (le_of_lt below), lt-ltb (n * up d * down e) (m * up e * down d) below)
        (round_neg false (m * up e * down d - n * up d * down e) (down e * down d) ∙ ap neg both_difference)

-- ---- what `lost_in` says

record Lost (a b : Float) : Type 0 where
  pub some : T (lt 0f b)
  pub less : T (lt b a)
  pub more : T (le (a ⊕ b) a)
  pub fewer : T (le a (a ⊖ b))

four : (p q r s : Bool) → p && q && r && s ≡ true → T p × (T q × (T r × T s))
four true true true true e = (tt, (tt, (tt, tt)))
four false q r s e = absurd (false≢true e)
four true false r s e = absurd (false≢true e)
four true true false s e = absurd (false≢true e)
four true true true false e = absurd (false≢true e)

lost_is : (a b : Float) → lost_in a b ≡ true → Lost a b
unfolding lost_in
lost_is a b e =
    let all = four (lt 0f b) (lt b a) (le (a ⊕ b) a) (le a (a ⊖ b)) e in
    record { some = all.0; less = all.1.0; more = all.1.1.0; fewer = all.1.1.1 }

-- b is finite, since a is above it
bound_positive : (a b : Float) → T (lt 0f b) → T (lt b a) → T (positive b)
unfolding lt of_bits
bound_positive a nan h k = absurd h
bound_positive nan (inf s) h k = absurd k
bound_positive (inf t) (inf true) h k = absurd h
bound_positive (inf t) (inf false) h k = absurd k
bound_positive (fin t n d) (inf true) h k = absurd h
bound_positive (fin t n d) (inf false) h k = absurd k
bound_positive a (fin true m e) h k = absurd h
bound_positive a (fin false m e) h k =
    let above : 0 * 1 * down e < m * up e * 1 = ltb→lt (0 * 1 * down e) (m * up e * 1) h in
    lt→ltb 0 m (first_pos m (up e) (omega (arith, above)))

-- and below it as a fraction, where a is above zero; nothing above zero is below a negative
less_cross : (m : ℕ) (e : ℤ) (b : Float) → T (positive b) → T (lt b (fin false m e)) → num b * down e < m * up e * den b
unfolding lt
less_cross m e nan p h = absurd p
less_cross m e (inf s) p h = absurd p
less_cross m e (fin true k g) p h = absurd p
less_cross m e (fin false k g) p h = ltb→lt (k * up g * down e) (m * up e * down g) h

not_less : (m : ℕ) (e : ℤ) (b : Float) → T (positive b) → T (lt b (fin true m e)) → ⊥
unfolding lt
not_less m e nan p h = p
not_less m e (inf s) p h = p
not_less m e (fin true k g) p h = p
not_less m e (fin false k g) p h = h

-- every number up to b is lost in a, and in its negative
any_lost : (a b t : Float) → T (fits binary64 a) → Lost a b → Under t b → (a ⊕ t ≡ a) × (neg a ⊕ t ≡ neg a)
unfolding lt add neg
any_lost a b nan f h u = absurd u
any_lost a b (inf s) f h u = absurd u
any_lost nan nan (fin s n d) f h u = absurd h.less
any_lost nan (inf t) (fin s n d) f h u = absurd h.less
any_lost nan (fin t k g) (fin s n d) f h u = absurd h.less
any_lost (inf true) b (fin s n d) f h u = (refl, refl)
any_lost (inf false) b (fin s n d) f h u = (refl, refl)
any_lost (fin true m e) b (fin s n d) f h u = absurd (not_less m e b (bound_positive (fin true m e) b h.some h.less) h.less)
any_lost (fin false m e) b (fin s n d) f h u =
    let pb = bound_positive (fin false m e) b h.some h.less in
    let less = less_cross m e b pb h.less in
    let pa = lt→ltb 0 m (first_pos m (up e) (first_pos (m * up e) (den b) (omega (arith, less)))) in
    (plus_lost m e b f pa pb less h.more h.fewer n d u s, minus_lost m e b f pa pb less h.more h.fewer n d u s)

-- ---- products

-- no result of `round false` has the other sign
abbrev Plus : Float → Type 0
Plus nan = ⊥
Plus (inf s) = s ≡ false
Plus (fin s n d) = s ≡ false

units_plus : (q k : ℕ) → Plus (units binary64 false q k)
unfolding units
units_plus q k = go (ltb (q * 2 ^ k) (2 ^ 2098))
  where
    odd_plus : (q : ℕ) → Plus (odd 54 false q k 1074)
    odd_plus zero = unfold odd in refl
    odd_plus (suc q) = unfold odd in refl

    go : (b : Bool) → Plus (cond b (odd 54 false q k 1074) (inf false))
    go true = odd_plus q
    go false = refl

round_plus : (a c : ℕ) → Plus (round binary64 false a c)
round_plus a c = subst Plus (sym (round_is binary64 false a c)) (units_plus (kept 53 (a * 2 ^ 1074) c) (drop 53 (a * 2 ^ 1074) c))

-- what is not above b, and not negative
under_of : (z b : Float) → Plus z → T (positive b) → T (le z b) → Under z b
unfolding le lt eq
under_of nan b s p h = absurd s
under_of (inf t) nan s p h = absurd p
under_of (inf t) (inf u) s p h = absurd p
under_of (inf true) (fin u k g) s p h = absurd (false≢true (sym s))
under_of (inf false) (fin u k g) s p h = absurd h
under_of (fin t n d) nan s p h = absurd p
under_of (fin t n d) (inf u) s p h = absurd p
under_of (fin t n d) (fin true k g) s p h = absurd p
under_of (fin true n d) (fin false k g) s p h = absurd (false≢true (sym s))
under_of (fin false n d) (fin false k g) s p h = at_most (n * up d * down g) (k * up g * down d) h
  where
    go : (a b : ℕ) (p q : Bool) → (T p → a < b) → (T q → a ≡ b) → T (p || (q && true)) → a ≤ b
    go a b true q f g h = le_of_lt (f tt)
    go a b false true f g h = le_of_eq (g tt)
    go a b false false f g h = absurd h

    at_most : (a b : ℕ) → T (ltb a b || (eqb a b && true)) → a ≤ b
    at_most a b h = go a b (ltb a b) (eqb a b) (ltb→lt a b) (eqb→eq a b) h

under_neg : (z b : Float) → Under z b → Under (neg z) b
unfolding neg
under_neg nan b u = u
under_neg (inf s) b u = u
under_neg (fin s n d) b u = u

-- up to the pattern p, as fractions
pattern_up : (p q : ℕ) → p ≤ q → pattern_units p ≤ pattern_units q
pattern_up p q h = elim (eq-or-lt_of_le h) [ inl e ↦ le_of_eq (ap pattern_units e) | inr l ↦ le_of_lt (pattern_order p q l) ]

module _ (p : ℕ) (h : p < INF) where
  not_numbers : (x : Float) → UpTo p x → (x ≡ nan) ⊎ ((s : Bool) × (x ≡ inf s)) → ⊥
  unfolding to_bits
  not_numbers x u (inl e) = let k = subst (λ (y : Float). pattern_of y ≤ p) e u.size in omega (arith, h, k)
  not_numbers x u (inr (true, e)) = let k = subst (λ (y : Float). pattern_of y ≤ p) e u.size in omega (arith, h, k)
  not_numbers x u (inr (false, e)) = let k = subst (λ (y : Float). pattern_of y ≤ p) e u.size in omega (arith, h, k)

  -- a number of it is no larger than the one that p stands for
  up_to_cross : (s : Bool) (n : ℕ) (d : ℤ) (P : Float) → UpTo p (fin s n d) → HasValue P false (pattern_units p) (2 ^ 1074) → n * up d * den P ≤ num P * down d
  up_to_cross s n d nan u v = absurd v
  up_to_cross s n d (inf t) u v = absurd v
  up_to_cross s n d (fin t k g) u v =
      transfer (n * up d) (k * up g) (down d) (down g) (pattern_units (pattern_of (fin s n d))) (pattern_units p) (2 ^ 1074) (2 ^ 1074) (pow_pos 1074) (pow_pos 1074)
      (size_cross s n d u.held) v.1 (mul-le-mul_right (2 ^ 1074) (pattern_up (pattern_of (fin s n d)) p u.size))

-- a product of either sign, up to that of P and Q
module _ (s t : Bool) (n : ℕ) (d : ℤ) (m : ℕ) (e : ℤ) where
  abbrev size : Float
  size = round binary64 false (n * up d * (m * up e)) (down d * down e)

  plus_under : (b : Float) → T (positive b) → T (le size b) → Under size b
  plus_under b pb h = under_of size b (round_plus (n * up d * (m * up e)) (down d * down e)) pb h

  signed_under : (b : Float) (σ : Bool) → T (positive b) → T (le size b) → Under (round binary64 σ (n * up d * (m * up e)) (down d * down e)) b
  signed_under b false pb h = plus_under b pb h
  signed_under b true pb h = subst (λ (z : Float). Under z b) (sym (round_neg false (n * up d * (m * up e)) (down d * down e))) (under_neg size b (plus_under b pb h))

  fields_under : (P Q : Float) (a c u v : ℕ) → HasValue P false a c → HasValue Q false u v → n * up d * den P ≤ num P * down d → m * up e * den Q ≤ num Q * down e → T (positive (P ⊗ Q))
      → Under (fin s n d ⊗ fin t m e) (P ⊗ Q)
  unfolding mul
  fields_under nan Q a c u v x y h k pb = absurd x
  fields_under (inf σ) Q a c u v x y h k pb = absurd x
  fields_under (fin σ k g) nan a c u v x y h l pb = absurd y
  fields_under (fin σ k g) (inf τ) a c u v x y h l pb = absurd y
  fields_under (fin true k g) (fin τ j f) a c u v x y h l pb = absurd (false≢true (sym x.0))
  fields_under (fin false k g) (fin true j f) a c u v x y h l pb = absurd (false≢true (sym y.0))
  fields_under (fin false k g) (fin false j f) a c u v x y h l pb =
      signed_under (round binary64 false (k * up g * (j * up f)) (down g * down f)) (unlike s t) pb
      (round_mono binary64 (n * up d * (m * up e)) (down d * down e) (k * up g * (j * up f)) (down g * down f) (mul-pos (down_pos d) (down_pos e)) (mul-pos (down_pos g) (down_pos f))
      (turn (n * up d) (down d) (m * up e) (down e) (k * up g) (down g) (j * up f) (down f) (mul-le-mul h l)))
    where
      turn : (n d m e k g j f : ℕ) → n * g * (m * f) ≤ k * d * (j * e) → n * m * (g * f) ≤ k * j * (d * e)
      turn n d m e k g j f h = omega (arith, h)

module _ (p q : ℕ) (hp : p < INF) (hq : q < INF) (b : Float) (is : b ≡ of_bits binary64 p ⊗ of_bits binary64 q) where
  product_under : (x y : Float) → UpTo p x → UpTo q y → T (positive b) → Under (x ⊗ y) b
  product_under nan y u v pb = absurd (not_numbers p hp nan u (inl refl))
  product_under (inf s) y u v pb = absurd (not_numbers p hp (inf s) u (inr (s, refl)))
  product_under (fin s n d) nan u v pb = absurd (not_numbers q hq nan v (inl refl))
  product_under (fin s n d) (inf t) u v pb = absurd (not_numbers q hq (inf t) v (inr (t, refl)))
  product_under (fin s n d) (fin t m e) u v pb =
      let P = of_bits binary64 p in
      let Q = of_bits binary64 q in
      let x = pattern_value p hp in
      let y = pattern_value q hq in
      rw is (fields_under s t n d m e P Q (pattern_units p) (2 ^ 1074) (pattern_units q) (2 ^ 1074) x y (up_to_cross p hp s n d P u x) (up_to_cross q hq t m e Q v y) (rw is at pb))

  -- EVERY SUCH PRODUCT IS LOST in d: in a number from zero up, and in one below zero
  pub lost_above : (d : Float) → T (fits binary64 d) → lost_in d b ≡ true → (x y : Float) → UpTo p x → UpTo q y → d ⊕ x ⊗ y ≡ d
  lost_above d f e x y u v =
      let l = lost_is d b e in
      (any_lost d b (x ⊗ y) f l (product_under x y u v (bound_positive d b l.some l.less))).0

  pub lost_below : (d : Float) → T (fits binary64 d) → lost_in (neg d) b ≡ true → (x y : Float) → UpTo p x → UpTo q y → d ⊕ x ⊗ y ≡ d
  lost_below d f e x y u v =
      let l = lost_is (neg d) b e in
      rw neg_neg at (any_lost (neg d) b (x ⊗ y) (neg-fits binary64 d f) l (product_under x y u v (bound_positive (neg d) b l.some l.less))).1
