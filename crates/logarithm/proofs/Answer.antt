-- The answer at each kind of argument: a float and its sign within 20 factors of the exact logarithm, and 0 at 1. Assumes nothing.
use mathlib.Core.Path.{◌≡◌, refl, sym, ap, ◌∙◌, subst}
use mathlib.Core.Bool.{Bool, true, false, not}
use Prim.Native.Nat.{ℕ, ◌+◌, ◌-◌, ◌*◌, ◌^◌, ◌≤◌, ◌<◌}
use native.Mathlib.Nat.{lt_of_not-le, mul-pos}
use native.Mathlib.Decide.{dec_le}
use native.Mathlib.Omega.{arith}
use borrow.Author.Tests.{lt-ltb, le-ltb}
use lib.Dec.{T, ltb, lit≤}
use lib.Ieee.{Float, nan, inf, fin, binary64, round, neg, of_bits}
use lib.Ieee.Exact.{HasValue}
use lib.Ieee.Positive.{num, den, positive, den_pos}
use Rattle.number.specs.F64.{◌⊕◌, ◌⊖◌, 0f}
use Rattle.number.specs.Range.{finite}
use Rattle.elementary.specs.Fraction.{Whole, Fraction, signed, size, negative}
use Rattle.elementary.specs.Band.{value_of, WithinOfIt}
use Rattle.elementary.specs.Exact.{L40, ten40}
use Rattle.elementary.proofs.Rounding.{Close, close_more, close_to, rounded_close, middle_ordinary, num_above, close_above}
use Rattle.elementary.proofs.Weighted.{add_middle, sub_middle, sub_order}
use Rattle.elementary.proofs.Sizes.{Same, within_of_it, close_within, neg_within}
use Rattle.logarithm.specs.Ln.{turns, near_one}
use Rattle.logarithm.proofs.Pattern.{W}
use Rattle.logarithm.proofs.Difference.{gap}
use Rattle.elementary.proofs.FloatChain.{turned}
use Rattle.logarithm.proofs.Terms.{sum_like, sum_unlike, sum_none}
use Rattle.logarithm.proofs.Value.{top, bottom, form, form_under, form_like, form_unlike, form_turns}
use Rattle.logarithm.proofs.Bounds.{less, near_middle, sum_middle, difference_middle, bottom_pos}
use Rattle.logarithm.proofs.Turns as Turns
use Rattle.logarithm.proofs.Near as Near

-- y is z, and -z where s is true, and z is near the size of w, which has the same sign
pub record Held (s : Bool) (y : Float) (w : Fraction) : Type 0 where
  pub z : Float
  pub is : y ≡ turned s z
  pub N : ℕ
  pub close : Close 20 z N w.under
  pub same : Same w.over (signed s N)

pub held_within : (s : Bool) (y : Float) (w : Fraction) → Held s y w → WithinOfIt 48 (value_of y) w
held_within s y w h = subst (λ (y : Float). WithinOfIt 48 (value_of y) w) (sym h.is) (go s h.same)
  where
    go : (s : Bool) → Same w.over (signed s h.N) → WithinOfIt 48 (value_of (turned s h.z)) w
    go false e = close_within 48 w h.close tt e
    go true e = neg_within 48 w h.close tt e

pub held_finite : (s : Bool) (y : Float) (w : Fraction) → Held s y w → T (finite y)
unfolding neg
held_finite s y w h = subst (λ (y : Float). T (finite y)) (sym h.is) (go s h.z h.close.above)
  where
    go : (s : Bool) (z : Float) → T (positive z) → T (finite (turned s z))
    go s nan p = absurd p
    go s (inf t) p = absurd p
    go s (fin true n e) p = absurd p
    go false (fin false n e) p = tt
    go true (fin false n e) p = tt

-- ---- k = F - 1023 and m = μ / 2 ^ 53, of which t is (m - 1) / (m + 1)
pub record Parts (F μ : ℕ) (m : Float) (t : Fraction) : Type 0 where
  pub few : F ≤ 2047
  pub value : HasValue m false μ W
  pub least : 3 * W ≤ 4 * μ
  pub most : 2 * μ < 3 * W
  pub sign : negative t.over ≡ ltb μ W
  pub cross : gap μ W * t.under ≡ size t.over * (μ + W)
  pub small : 5 * size t.over ≤ t.under
  pub some : 1 ≤ t.under

module _ (F μ : ℕ) (m : Float) (t : Fraction) (parts : Parts F μ m t) where
  abbrev k : Whole
  k = record { plus = F + 52; minus = 1075 }

  abbrev τ : ℕ
  τ = size t.over

  abbrev Δ : ℕ
  Δ = t.under

  abbrev K : ℕ
  K = gap F 1023

  abbrev D : ℕ
  D = Δ * bottom Δ 31

  abbrev b : ℕ
  b = 2 * (τ * top τ Δ 31)

  k_is : Same k (signed (ltb F 1023) K)
  k_is = go (dec_le 1023 F)
    where
      go : Dec (1023 ≤ F) → Same k (signed (ltb F 1023) K)
      go (yes g) = rw (le-ltb F 1023 g) (omega arith)
      go (no n) = let j = lt_of_not-le n in rw (lt-ltb F 1023 j) (omega arith)

  D⁺ : 1 ≤ D
  D⁺ = mul-pos parts.some (bottom_pos τ Δ parts.small parts.some 31)

  ten⁺ : 1 ≤ ten40
  unfolding ten40
  ten⁺ = lit≤ tt

  -- m is 1, and k is not 0
  pub only_turns : τ ≡ 0 → 1 ≤ K → Held (ltb F 1023) (turns F) (form k t)
  only_turns z p = record {
    z = Turns.sized F;
    is = Turns.turns_are F parts.few;
    N = K * L40 * D;
    close = rw (form_under k t (ltb F 1023) K k_is parts.small) (close_more {i = 2} (lit≤ tt) (close_to (K * L40 * D) (ten40 * D) (mul-pos ten⁺ D⁺) (turn (K * L40) ten40 D) (Turns.turns_close F parts.few p)));
    same = form_turns k t (ltb F 1023) K k_is parts.small z;
  }
    where
      turn : (a c d : ℕ) → a * (c * d) ≡ a * d * c
      turn a c d = omega arith

  -- m is 1, and k is 0: the exact value is 0, and so is the answer
  pub neither : K ≡ 0 → τ ≡ 0 → WithinOfIt 48 (value_of 0f) (form k t)
  unfolding of_bits
  neither e z =
      within_of_it 48 (value_of 0f) (form k t) false 0 (0 * L40 * D) refl (form_turns k t false 0 (omega arith) parts.small z) (least (form k t).under (0 * L40 * D * 1 * (2 ^ 48 + 1))) none
    where
      least : (a b : ℕ) → 0 * a * 281474976710656 ≤ b
      least a b = omega arith

      none : 0 * L40 * D * 1 * 281474976710656 ≤ 0 * (form k t).under * 281474976710656 + 0 * L40 * D * 1
      none = omega arith

  -- m is not 1
  module _ (δ⁺ : 1 ≤ gap μ W) (large : Δ ≤ τ * 36028797018963968) where
    Λ : Float
    Λ = Near.sized (Near.ratio m μ)

    Λ-close : Close 8 Λ b D
    unfolding Λ
    Λ-close = Near.near_close m μ τ Δ parts.value parts.least parts.most δ⁺ parts.cross parts.some parts.small large

    near_is : near_one m ≡ turned (negative t.over) Λ
    unfolding Λ
    near_is = Near.near_is m μ parts.value ∙ ap (λ (s : Bool). turned s (Near.sized (Near.ratio m μ))) (sym parts.sign)

    -- k is 0
    pub only_near : K ≡ 0 → Held (negative t.over) (0f ⊕ near_one m) (form k t)
    only_near e = record {
      z = round binary64 false (num Λ) (den Λ);
      is = ap (λ (y : Float). 0f ⊕ y) near_is ∙ sum_none (negative t.over) Λ Λ-close.above;
      N = 0 * L40 * D + b * ten40;
      close = rw (form_under k t (negative t.over) 0 (none (negative t.over)) parts.small) (close_more {i = 9} (lit≤ tt) (close_to (0 * L40 * D + b * ten40) (ten40 * D) (mul-pos ten⁺ D⁺) (turn b ten40 D L40) rounded));
      same = form_like k t (negative t.over) 0 (none (negative t.over)) parts.small refl;
    }
      where
        none : (s : Bool) → Same k (signed s 0)
        none false = omega arith
        none true = omega arith

        turn : (a c d L : ℕ) → a * (c * d) ≡ (0 * L * d + a * c) * d
        turn a c d L = omega arith

        rounded : Close 9 (round binary64 false (num Λ) (den Λ)) b D
        rounded = rounded_close (round binary64 false (num Λ) (den Λ)) b D (num_above Λ Λ-close.above) (den_pos Λ) D⁺ refl (middle_ordinary (close_above Λ-close) D⁺ (lit≤ tt) Λ-close.ratio (near_middle τ Δ parts.small large parts.some)) Λ-close.ratio

    -- neither is
    module _ (p : 1 ≤ K) where
      A : Float
      A = Turns.sized F

      A-close : Close 2 A (K * L40) ten40
      unfolding A
      A-close = Turns.turns_close F parts.few p

      few : K ≤ 2047
      few = omega (arith, parts.few)

      less_is : 8 * (b * ten40) ≤ 5 * (K * L40 * D)
      less_is = less τ Δ parts.small parts.some K p

      turns_is : turns F ≡ turned (ltb F 1023) A
      unfolding A
      turns_is = Turns.turns_are F parts.few

      sum_is : turns F ⊕ near_one m ≡ turned (ltb F 1023) A ⊕ turned (negative t.over) Λ
      sum_is = ap (λ (y : Float). y ⊕ near_one m) turns_is ∙ ap (λ (y : Float). turned (ltb F 1023) A ⊕ y) near_is

      like : ltb F 1023 ≡ negative t.over → Held (ltb F 1023) (turns F ⊕ near_one m) (form k t)
      like e = record {
        z = A ⊕ Λ;
        is = sum_is ∙ sum_like (ltb F 1023) (negative t.over) A Λ e A-close.above Λ-close.above;
        N = K * L40 * D + b * ten40;
        close = rw (form_under k t (ltb F 1023) K k_is parts.small) (close_more {i = 6} (lit≤ tt) (add_middle 5 8 5 A-close Λ-close less_is tt (sum_middle K D b p few less_is)));
        same = form_like k t (ltb F 1023) K k_is parts.small e;
      }

      unlike : not (ltb F 1023) ≡ negative t.over → Held (ltb F 1023) (turns F ⊕ near_one m) (form k t)
      unlike e = record {
        z = A ⊖ Λ;
        is = sum_is ∙ sum_unlike (ltb F 1023) (negative t.over) A Λ e A-close.above Λ-close.above (sub_order 19 8 5 A-close Λ-close less_is tt);
        N = K * L40 * D - b * ten40;
        close = rw (form_under k t (ltb F 1023) K k_is parts.small) (sub_middle 19 8 5 A-close Λ-close less_is tt (K * L40 * D - b * ten40) rest (difference_middle K D b p few less_is (K * L40 * D - b * ten40) rest));
        same = form_unlike k t (ltb F 1023) K k_is parts.small (K * L40 * D - b * ten40) e rest;
      }
        where
          rest : K * L40 * D - b * ten40 + b * ten40 ≡ K * L40 * D
          rest = let h = less_is in omega arith

      pub both : Held (ltb F 1023) (turns F ⊕ near_one m) (form k t)
      both = go (ltb F 1023) (negative t.over) like unlike
        where
          go : (s r : Bool) {H : Type 0} → (s ≡ r → H) → (not s ≡ r → H) → H
          go false false f g = f refl
          go false true f g = g refl
          go true false f g = g refl
          go true true f g = f refl
