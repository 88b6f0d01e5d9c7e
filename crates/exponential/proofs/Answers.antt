-- The definition's answer is near the exact value, for every float: outside the range, at zero, and elsewhere. Assumes nothing.
use Rattle.std.proofs.Common.{◌≡◌, ℕ, zero, suc, ◌-◌, ◌*◌, ◌<◌, ◌≤◌, Bool, true, false, cond, not, T, eqb, ℤ, sym, refl, ap, ◌∙◌, subst, le_trans, mul-le-mul_right, mul-pos, le_of_mul-le-mul_right, arith, lit≤, eqb→eq, nltb→le}
use lib.Ieee.{Float, nan, inf, fin, binary64, fits, up, down, lt, eq, is_nan, of_bits, neg}
use lib.Ieee.Fits.{and_l}
use lib.Ieee.Positive.{positive}
use Rattle.number.specs.F64.{0f, 1f, −◌}
use Rattle.elementary.specs.Band.{value_of, WithinOfIt}
use Rattle.elementary.specs.Exact.{exp_turns, exp_value, 709f, 708f, ExpAnswer, If}
use Rattle.elementary.proofs.Patterns.{size_fits}
use Rattle.elementary.proofs.Rounding.{Close}
use Rattle.elementary.specs.Series.{factorial}
use Rattle.elementary.proofs.Chain.{under, over}
use Rattle.elementary.proofs.Sizes.{close_within}
use Rattle.exponential.specs.Exp.{units, multiples, power_of_two, inside_of, exp_of}
use Rattle.exponential.proofs.Guess.{Nearest, limit, nearest_of, multiples_ge}
use Rattle.exponential.proofs.Scaled.{U, Units, units_of}
use Rattle.exponential.proofs.Reduced.{gap, turned, none, near, scale_pos}
use Rattle.exponential.proofs.Rests.{turns_are, exact_small, code_small}
use Rattle.exponential.proofs.Value.{times_power, ω, Ω, sign, value_over, value_under}
use Rattle.exponential.proofs.Powers.{field}
use Rattle.exponential.proofs.Near.{answer_close}
use Rattle.exponential.proofs.Cases.{without_rest}

of_false : {b : Bool} → b ≡ false → T (not b)
of_false e = subst (λ (z : Bool). T (not z)) (sym e) tt

-- 2 ^ 0 with no rest
unscaled : (t : Bool) → inside_of t 0 0 ≡ 1f
unfolding power_of_two multiples
unscaled false = without_rest false 0 0 refl
unscaled true = without_rest true 0 0 refl

-- ---- inside the range
module _ (t : Bool) (m : ℕ) (e : ℤ) (f : T (fits binary64 (fin t m e))) (high : lt 709f (fin t m e) ≡ false) (low : lt (fin t m e) (− 708f) ≡ false) where
  abbrev x : Float
  x = fin t m e

  pub in_units : Units (m * up e) (down e) (units x)
  unfolding units
  in_units = units_of m e (size_fits t m e f)

  -- at most 709, and below zero at most 708
  pub size_most : m * up e ≤ (709 - cond t 1 0) * down e
  unfolding lt of_bits neg
  size_most = go t high low
    where
      go : (t : Bool) → lt 709f (fin t m e) ≡ false → lt (fin t m e) (− 708f) ≡ false → m * up e ≤ (709 - cond t 1 0) * down e
      go false h l = let g = nltb→le (709 * 1 * down e) (m * up e * 1) (of_false h) in omega arith
      go true h l = let g = nltb→le (177 * 4 * down e) (m * up e * 1) (of_false l) in omega arith

  units_most : units x ≤ (709 - cond t 1 0) * U
  units_most = go (units x) (m * up e) (down e) (709 - cond t 1 0) in_units.under in_units.lo size_most
    where
      go : (X a b c : ℕ) → 0 < b → X * b ≤ a * U → a ≤ c * b → X ≤ c * U
      go X a b c p h l = le_of_mul-le-mul_right {k = b} (omega (arith, mul-le-mul_right U l)) p

  pub units_limit : units x ≤ limit
  units_limit = le_trans units_most (go t)
    where
      go : (t : Bool) → (709 - cond t 1 0) * U ≤ limit
      go false = lit≤ tt
      go true = lit≤ tt

  -- the nearest k is the definition's
  pub turns : (k : ℕ) → Nearest (units x) k → exp_turns x ≡ k
  unfolding exp_turns
  turns k n = turns_are t (m * up e) (down e) k in_units.under (turned (m * up e) (down e) (units x) k in_units n)

  pub rest_most : (k : ℕ) → Nearest (units x) k → 20 * gap (units x) (multiples (2 * k)) ≤ 7 * U
  rest_most k n = code_small (m * up e) (down e) k (units x) (multiples (2 * k)) (mul-pos in_units.under scale_pos) (turned (m * up e) (down e) (units x) k in_units n) (near (m * up e) (down e) (units x) k in_units n)

  abbrev k : ℕ
  k = exp_turns x

  nearest_turns : Nearest (units x) k
  nearest_turns = let n = nearest_of (units x) units_limit in subst (λ (z : ℕ). Nearest (units x) z) (sym (turns n.0 n.1)) n.1

  field_least : 2 ≤ field t k
  field_least = go t k nearest_turns.0 units_most nearest_turns.2 (multiples_ge (2 * k - 1))
    where
      go : (t : Bool) (k : ℕ) → k ≤ 1023 → units x ≤ (709 - cond t 1 0) * U → (1 ≤ k → multiples (2 * k - 1) < units x) → (2 * k - 1) * 6243314768165359 ≤ multiples (2 * k - 1) → 2 ≤ field t k
      go false k K h g l = omega arith
      go true zero K h g l = lit≤ tt
      go true (suc k) K h g l = let q = g (omega arith) in omega arith

  abbrev y : Float
  y = inside_of t (units x) k

  close : Close 10 y (times_power t k (over factorial (sign t m e) (ω t m e) (Ω t m e) 0 31)) (times_power (not t) k (under factorial (Ω t m e) 0 31))
  close = answer_close t (m * up e) (down e) (units x) k in_units nearest_turns field_least

  within : WithinOfIt 48 (value_of y) (exp_value x)
  within = close_within 48 (exp_value x) (subst (λ (z : ℕ). Close 10 y (times_power t k (over factorial (sign t m e) (ω t m e) (Ω t m e) 0 31)) z) (sym (value_under t m e)) close) tt
      (value_over t m e (exact_small (m * up e) (down e) k (turned (m * up e) (down e) (units x) k in_units nearest_turns)))

  -- at a zero of either sign the answer is 1
  one : T (eq x 0f) → y ≡ 1f
  unfolding eq of_bits
  one z = ap (λ (u : ℕ). inside_of t u k) no_units ∙ ap (inside_of t 0) no_turns ∙ unscaled t
    where
      no_size : m * up e ≡ 0
      no_size = go (m * up e) (down e) (eqb→eq (m * up e * 1) (0 * 1 * down e) (and_l (eqb (m * up e * 1) (0 * 1 * down e)) _ z))
        where
          go : (a b : ℕ) → a * 1 ≡ 0 * 1 * b → a ≡ 0
          go a b h = omega arith

      no_units : units x ≡ 0
      no_units = go (units x) (m * up e) (down e) no_size in_units.under in_units.lo
        where
          go : (X a b : ℕ) → a ≡ 0 → 0 < b → X * b ≤ a * U → X ≡ 0
          go zero a b h p l = refl
          go (suc X) a b h p l = absurd (omega arith)

      no_turns : k ≡ 0
      no_turns = none (m * up e) (down e) (units x) k in_units nearest_turns (go (m * up e) (down e) no_size in_units.under)
        where
          go : (a b : ℕ) → a ≡ 0 → 0 < b → 4 * a < b
          go a b h p = omega arith

  inside_answer : (T (eq x 0f) → y ≡ 1f) × T (positive y) × WithinOfIt 48 (value_of y) (exp_value x)
  inside_answer = (one, close.above, within)

-- ---- every float: h says that it is above 709, l that it is below -708
abbrev Says : (h l : Bool) (x y : Float) → Type 0
Says h l x y = If h (y ≡ inf false) (If l (y ≡ 0f) ((T (eq x 0f) → y ≡ 1f) × T (positive y) × WithinOfIt 48 (value_of y) (exp_value x)))

by_test : (t : Bool) (m : ℕ) (e : ℤ) → T (fits binary64 (fin t m e)) → (h l : Bool) → lt 709f (fin t m e) ≡ h → lt (fin t m e) (− 708f) ≡ l
    → Says h l (fin t m e) (cond h (inf false) (cond l 0f (inside_of t (units (fin t m e)) (exp_turns (fin t m e)))))
by_test t m e f true l high low = refl
by_test t m e f false true high low = refl
by_test t m e f false false high low = inside_answer t m e f high low

pub meets : (x : Float) → T (fits binary64 x) → ExpAnswer x (exp_of x)
unfolding ExpAnswer exp_of is_nan lt of_bits neg
meets nan f = refl
meets (inf false) f = refl
meets (inf true) f = refl
meets (fin t m e) f = by_test t m e f (lt 709f (fin t m e)) (lt (fin t m e) (− 708f)) refl refl
