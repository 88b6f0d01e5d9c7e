-- For every normal x the float that is computed is near the exact logarithm, of its sign, and 0 only at 1. Assumes nothing.
use Rattle.std.specs.Prelude.{Ok, Err}
use mathlib.Core.Path.{◌≡◌, refl, sym, ap, ◌∙◌, subst}
use mathlib.Core.Bool.{Bool, true, false, not, cond}
use Prim.Native.Nat.{ℕ, zero, suc, ◌+◌, ◌-◌, ◌*◌, ◌^◌, ◌≤◌, ◌<◌}
use native.Mathlib.Omega.{arith}
use lib.Dec.{T, ltb}
use lib.Ieee.{Float, binary64, fits, eq, lt, of_bits, to_bits}
use lib.Ieee.Positive.{num, den, den_pos, value→cross}
use Rattle.number.specs.F64.{◌⊕◌, 0f, 1f}
use Rattle.number.specs.Range.{finite}
use Rattle.root.specs.Parts.{pattern_units}
use Rattle.elementary.specs.Fraction.{Whole, Fraction}
use Rattle.elementary.specs.Band.{value_of, WithinOfIt, Says}
use Rattle.elementary.specs.Exact.{ln_inside, ln_part, ln_ratio, ln_value, LnAnswer}
use Rattle.logarithm.specs.Ln.{field, part, turns, near_one, of_pattern, ln_of}
use Rattle.logarithm.proofs.Pattern.{W, Split, split, field_range}
use Rattle.logarithm.proofs.Inside.{normal_above, bits_least, bits_most, units}
use Rattle.logarithm.proofs.Reduced.{exponent_is, doubled, part_cross}
use Rattle.logarithm.proofs.Value.{form, value_is}
use Rattle.logarithm.proofs.Difference.{gap}
use Rattle.logarithm.proofs.Ratio.{part_least, part_most, small, sign_is, cross, large, none as absent}
use Rattle.logarithm.proofs.Answer.{Parts, Held, held_within, held_finite, only_turns, neither, only_near, both}
use Rattle.logarithm.proofs.Cases.{at_one, not_one, one_test, one_only, of_one}
use Rattle.logarithm.proofs.Sign.{below_is, by_field, by_part, equal}
use Rattle.logarithm.proofs.Turns.{turns_none}

-- the fraction t of m = p / q
abbrev ratio_of : ℕ → ℕ → Fraction
ratio_of p q = record { over = record { plus = p; minus = q }; under = p + q }

ratio_is : (x : Float) → ln_ratio x ≡ ratio_of (ln_part x).over.plus (ln_part x).under
unfolding ln_ratio
ratio_is x = refl

-- what is said of y, whose sign tells whether x is below 1
pub data Found (x y : Float) : Type 0 where
  other : Held (lt x 1f) y (ln_value x) → Found x y
  none : T (eq x 1f) → y ≡ 0f → WithinOfIt 48 (value_of 0f) (ln_value x) → Found x y

module _ (x : Float) (f : T (fits binary64 x)) (i : T (ln_inside x)) where
  abbrev b : ℕ
  b = to_bits binary64 x

  abbrev F : ℕ
  F = field b

  μ : ℕ
  μ = (split b (bits_least x f i)).0

  s : Split b μ
  unfolding μ
  s = (split b (bits_least x f i)).1

  abbrev p : ℕ
  p = (ln_part x).over.plus

  abbrev q : ℕ
  q = (ln_part x).under

  v : num x * 2 ^ 1074 ≡ pattern_units b * den x
  v = value→cross x (pattern_units b) (2 ^ 1074) (units x f i)

  range : (1 ≤ F) × (F ≤ 2047)
  range = field_range b (bits_least x f i) (bits_most x f i)

  part_is : (p * W ≡ μ * q) × (0 < q)
  part_is = part_cross x (pattern_units b) μ F v range.0 s.units s.least s.most (normal_above x i)

  abbrev t : Fraction
  t = ratio_of p q

  abbrev k : Whole
  k = record { plus = F + 52; minus = 1075 }

  exact_is : ln_value x ≡ form k t
  exact_is = value_is x ∙ ap (λ (z : Whole). form z (ln_ratio x)) (exponent_is x (pattern_units b) μ F v range.0 s.units s.least s.most) ∙ ap (form k) (ratio_is x)

  abbrev m : Float
  m = of_bits binary64 (part b)

  Q : 0 < q
  Q = part_is.1

  e : p * W ≡ μ * q
  e = part_is.0

  l : 3 * W ≤ 4 * μ
  l = s.least

  h : 2 * μ < 3 * W
  h = s.most

  pub part_range : (3 * q ≤ 4 * p) × (2 * p < 3 * q)
  part_range = (part_least p q μ Q e l h, part_most p q μ Q e l h)

  parts : Parts F μ m t
  parts = record { few = range.1; value = s.value; least = l; most = h; sign = sign_is p q μ Q e l h; cross = cross p q μ Q e l h; small = small p q μ Q e l h; some = omega (arith, Q) }

  -- by whether k is 0
  by_turns : (y : Float) → (F ≡ 1023 → Found x y) → (1 ≤ gap F 1023 → Found x y) → Found x y
  by_turns y f g = go (gap F 1023) (λ (z : gap F 1023 ≡ 0). f (omega arith)) g
    where
      go : (n : ℕ) → (n ≡ 0 → Found x y) → (1 ≤ n → Found x y) → Found x y
      go zero f g = f refl
      go (suc n) f g = g (omega arith)

  held : (c : Bool) (y : Float) → c ≡ lt x 1f → Held c y (form k t) → Found x y
  held c y e h = other (subst (λ (c : Bool). Held c y (ln_value x)) e (subst (Held c y) (sym exact_is) h))

  doubled_is : num x * (W * 2 ^ 1022) ≡ μ * 2 ^ (F - 1) * den x
  doubled_is = doubled x (pattern_units b) μ F v range.0 s.units l h

  field_sign : 1 ≤ gap F 1023 → ltb F 1023 ≡ lt x 1f
  field_sign g = by_field (num x) (den x) μ F (den_pos x) doubled_is l h g ∙ sym (below_is x (normal_above x i))

  part_sign : F ≡ 1023 → ltb p q ≡ lt x 1f
  part_sign g = sign_is p q μ Q e l h ∙ by_part (num x) (den x) μ F (den_pos x) doubled_is l h g ∙ sym (below_is x (normal_above x i))

  -- m is 1
  one : eq m 1f ≡ true → Found x (turns F)
  one c =
      let z : gap p q ≡ 0 = absent p q μ Q e l h (at_one m μ s.value c) in
      by_turns (turns F)
      (λ g. none (one_test x (normal_above x i) (equal (num x) (den x) μ F (den_pos x) doubled_is l h g (at_one m μ s.value c))) (ap turns g ∙ turns_none) (subst (WithinOfIt 48 (value_of 0f)) (sym exact_is) (neither F μ m t parts (omega arith) z)))
      (λ g. held (ltb F 1023) (turns F) (field_sign g) (only_turns F μ m t parts z g))

  -- m is not 1
  else : eq m 1f ≡ false → Found x (turns F ⊕ near_one m)
  else c =
      let d : 1 ≤ gap μ W = not_one m μ s.value c in
      let g : p + q ≤ gap p q * 36028797018963968 = large p q μ Q e l h d in
      by_turns (turns F ⊕ near_one m)
      (λ n. held (ltb p q) (turns F ⊕ near_one m) (part_sign n) (subst (λ (z : Float). Held (ltb p q) (z ⊕ near_one m) (form k t)) (sym (ap turns n ∙ turns_none)) (only_near F μ m t parts d g (omega arith))))
      (λ n. held (ltb F 1023) (turns F ⊕ near_one m) (field_sign n) (both F μ m t parts d g n))

  pub found : Found x (of_pattern b)
  unfolding of_pattern
  found = go (eq m 1f) one else
    where
      go : (c : Bool) → (c ≡ true → Found x (turns F)) → (c ≡ false → Found x (turns F ⊕ near_one m)) → Found x (cond c (turns F) (turns F ⊕ near_one m))
      go true f g = f refl
      go false f g = g refl

  -- ---- what the contract says of it
  pub found_finite : (y : Float) → Found x y → T (finite y)
  unfolding of_bits
  found_finite y (other h) = held_finite (lt x 1f) y (ln_value x) h
  found_finite y (none o e w) = subst (λ (z : Float). T (finite z)) (sym e) tt

  pub found_within : (y : Float) → Found x y → WithinOfIt 48 (value_of y) (ln_value x)
  found_within y (other h) = held_within (lt x 1f) y (ln_value x) h
  found_within y (none o e w) = subst (λ (z : Float). WithinOfIt 48 (value_of z) (ln_value x)) (sym e) w

  pub zero_at_one : T (eq x 1f) → of_pattern b ≡ 0f
  zero_at_one e = ap (λ (z : Float). of_pattern (to_bits binary64 z)) (one_only x f (normal_above x i) e) ∙ of_one

-- ---- the law
pub meets : (x : Float) → T (fits binary64 x) → LnAnswer x (ln_of x)
unfolding LnAnswer ln_of
meets x f = go (ln_inside x) refl
  where
    go : (c : Bool) → ln_inside x ≡ c → Says (ln_inside x) (λ y. (T (eq x 1f) → y ≡ 0f) × WithinOfIt 48 (value_of y) (ln_value x)) (cond c (Ok (of_pattern (to_bits binary64 x))) (Err (record {})))
    go true e = let i : T (ln_inside x) = subst T (sym e) tt in (i, found_finite x f i (of_pattern (to_bits binary64 x)) (found x f i), (zero_at_one x f i, found_within x f i (of_pattern (to_bits binary64 x)) (found x f i)))
    go false e = subst (λ (c : Bool). T (not c)) (sym e) tt
