-- Whole numbers that are equal as differences, their sizes and signs, and when a fraction is within so many binary digits of another. Assumes nothing.
use mathlib.Core.Path.{◌≡◌, refl, ap, ◌∙◌, subst}
use mathlib.Core.Bool.{Bool, true, false, not}
use Prim.Native.Nat.{ℕ, ◌+◌, ◌*◌, ◌^◌, ◌≤◌, ◌<◌}
use native.Mathlib.Nat.{mul-le-mul_left, mul-le-mul_right, le_of_mul-le-mul_left, one-le-pow}
use native.Mathlib.Decide.{dec_le}
use native.Mathlib.Omega.{arith}
use lib.Dec.{T, leb, ltb→lt, nltb→le, leb→le, lit<}
use lib.Ieee.{Float, nan, inf, fin, neg}
use lib.Ieee.Positive.{num, den, positive}
use Rattle.elementary.specs.Fraction.{Whole, Fraction, signed, ◌+ʷ◌, ◌−ʷ◌, ◌×ʷ◌, scaled, size, negative}
use Rattle.elementary.specs.Band.{value_of, distance, Within, WithinOfIt}
use Rattle.elementary.proofs.Ratio.{B, B⁺, Ratio}
use Rattle.elementary.proofs.Rounding.{Close}

-- equal numbers
abbrev pub Same : Whole → Whole → Type 0
Same v w = v.plus + w.minus ≡ w.plus + v.minus

pub same_trans : (u v w : Whole) → Same u v → Same v w → Same u w
same_trans u v w h k = omega arith

pub same_scaled : (v w : Whole) (n : ℕ) → Same v w → Same (scaled v n) (scaled w n)
same_scaled v w n h = omega (arith, ap (λ (z : ℕ). z * n) h)

pub same_plus : (v v' w w' : Whole) → Same v v' → Same w w' → Same (v +ʷ w) (v' +ʷ w')
same_plus v v' w w' h k = omega arith

pub same_times : (v v' w w' : Whole) → Same v v' → Same w w' → Same (v ×ʷ w) (v' ×ʷ w')
same_times v v' w w' h k =
    omega (arith, ap (λ (z : ℕ). z * w.plus) h, ap (λ (z : ℕ). z * w.minus) h, ap (λ (z : ℕ). v'.plus * z) k, ap (λ (z : ℕ). v'.minus * z) k)

-- ---- sizes and signs
pub size_same : (v w : Whole) → Same v w → size v ≡ size w
size_same v w h = omega arith

by_sign : (w : Whole) (P : Bool → Type 0) → (w.plus < w.minus → P true) → (w.minus ≤ w.plus → P false) → P (negative w)
by_sign w P below above = go (negative w) (λ t. below (ltb→lt w.plus w.minus t)) (λ t. above (nltb→le w.plus w.minus t))
  where
    go : (b : Bool) → (T b → P true) → (T (not b) → P false) → P b
    go true h k = h tt
    go false h k = k tt

pub own : (w : Whole) → Same w (signed (negative w) (size w))
own w = by_sign w (λ b. Same w (signed b (size w))) (λ h. omega arith) (λ h. omega arith)

pub size_signed : (s : Bool) (n : ℕ) → size (signed s n) ≡ n
size_signed false n = omega arith
size_signed true n = omega arith

pub not_negative : (w : Whole) (n : ℕ) → Same w (signed false n) → negative w ≡ false
not_negative w n h = by_sign w (λ b. b ≡ false) (λ k. absurd (omega arith)) (λ k. refl)

pub is_negative : (w : Whole) (n : ℕ) → 0 < n → Same w (signed true n) → negative w ≡ true
is_negative w n n⁺ h = by_sign w (λ b. b ≡ true) (λ k. refl) (λ k. absurd (omega arith))

pub above_times : (s : Bool) (a b : ℕ) → Same (signed false a ×ʷ signed s b) (signed s (a * b))
above_times false a b = omega arith
above_times true a b = omega arith

pub times_above : (s : Bool) (a b : ℕ) → Same (signed s a ×ʷ signed false b) (signed s (a * b))
times_above false a b = omega arith
times_above true a b = omega arith

-- ---- squares
pub square : (w : Whole) → Same (w ×ʷ w) (signed false (size w * size w))
square w = go (negative w) (size w) (same_times w (signed (negative w) (size w)) w (signed (negative w) (size w)) (own w) (own w))
  where
    go : (s : Bool) (a : ℕ) → Same (w ×ʷ w) (signed s a ×ʷ signed s a) → Same (w ×ʷ w) (signed false (a * a))
    go false a h = omega arith
    go true a h = omega arith

pub minus_square_lem : (w : Whole) → Same (signed true 1 ×ʷ (w ×ʷ w)) (signed true (size w * size w))
minus_square_lem w = omega (arith, square w)

-- ---- nearness
-- |z| * t ≤ M
pub size_at_most : (z : Whole) (t M : ℕ) → z.plus * t ≤ z.minus * t + M → z.minus * t ≤ z.plus * t + M → size z * t ≤ M
size_at_most z t M hi lo = go (negative z) (size z) (own z)
  where
    go : (s : Bool) (a : ℕ) → Same z (signed s a) → a * t ≤ M
    go false a e = omega (arith, ap (λ (x : ℕ). x * t) e)
    go true a e = omega (arith, ap (λ (x : ℕ). x * t) e)

-- v and w are p and N over their denominators, or both -p and -N
module _ (bits : ℕ) (v w : Fraction) (s : Bool) (p N : ℕ) (v-is : Same v.over (signed s p)) (w-is : Same w.over (signed s N)) where
  apart : (M : ℕ) → p * w.under * 2 ^ bits ≤ N * v.under * 2 ^ bits + M → N * v.under * 2 ^ bits ≤ p * w.under * 2 ^ bits + M → distance v w * 2 ^ bits ≤ M
  apart M hi lo = let h = go s (2 ^ bits) v-is w-is hi lo in size_at_most (scaled v.over w.under −ʷ scaled w.over v.under) (2 ^ bits) M h.0 h.1
    where
      go : (s : Bool) (t : ℕ) → Same v.over (signed s p) → Same w.over (signed s N) → p * w.under * t ≤ N * v.under * t + M → N * v.under * t ≤ p * w.under * t + M
          → ((v.over.plus * w.under + w.over.minus * v.under) * t ≤ (v.over.minus * w.under + w.over.plus * v.under) * t + M)
          × ((v.over.minus * w.under + w.over.plus * v.under) * t ≤ (v.over.plus * w.under + w.over.minus * v.under) * t + M)
      go false t e f hi lo = omega (arith, ap (λ (z : ℕ). z * (w.under * t)) e, ap (λ (z : ℕ). z * (v.under * t)) f)
      go true t e f hi lo = omega (arith, ap (λ (z : ℕ). z * (w.under * t)) e, ap (λ (z : ℕ). z * (v.under * t)) f)

  pub within : p * w.under * 2 ^ bits ≤ N * v.under * 2 ^ bits + v.under * w.under → N * v.under * 2 ^ bits ≤ p * w.under * 2 ^ bits + v.under * w.under → Within bits v w
  within hi lo = apart (v.under * w.under) hi lo

  pub within_of_it : p * w.under * 2 ^ bits ≤ N * v.under * (2 ^ bits + 1) → N * v.under * 2 ^ bits ≤ p * w.under * 2 ^ bits + N * v.under → WithinOfIt bits v w
  within_of_it hi lo = rw (size_same w.over (signed s N) w-is ∙ size_signed s N) (apart (v.under * N) (omega arith) (omega arith))

  -- j factors are within it, by a test that computes
  pub ratio_within : {j : ℕ} → Ratio j p v.under N w.under → T (leb (B⁺ ^ j * 2 ^ bits) (B ^ j * (2 ^ bits + 1))) → WithinOfIt bits v w
  ratio_within {j} r test =
      let h = go (p * w.under) (N * v.under) (B ^ j) (B⁺ ^ j) (2 ^ bits) (one-le-pow j B (lit< tt)) r.hi r.lo (leb→le (B⁺ ^ j * 2 ^ bits) (B ^ j * (2 ^ bits + 1)) test) in
      within_of_it h.0 h.1
    where
      go : (x y b c t : ℕ) → 1 ≤ b → x * b ≤ y * c → y * b ≤ x * c → c * t ≤ b * (t + 1) → (x * t ≤ y * (t + 1)) × (y * t ≤ x * t + y)
      go x y b c t b⁺ hi lo h = (part x y hi, low (dec_le x y) (part y x lo))
        where
          part : (x y : ℕ) → x * b ≤ y * c → x * t ≤ y * (t + 1)
          part x y k = le_of_mul-le-mul_left {k = b} (omega (arith, mul-le-mul_right t k, mul-le-mul_left y h)) b⁺

          low : Dec (x ≤ y) → y * t ≤ x * (t + 1) → y * t ≤ x * t + y
          low (yes k) l = omega arith
          low (no k) l = omega (arith, mul-le-mul_right {m = y} {n = x} t (omega arith))

-- a float above zero, and its negative
value_above : (y : Float) → T (positive y) → Same (value_of y).over (signed false (num y))
value_above nan p = absurd p
value_above (inf s) p = absurd p
value_above (fin true m e) p = absurd p
value_above (fin false m e) p = refl

value_below : (y : Float) → T (positive y) → Same (value_of (neg y)).over (signed true (num y)) × (den y ≡ den (neg y))
unfolding neg
value_below nan p = absurd p
value_below (inf s) p = absurd p
value_below (fin true m e) p = absurd p
value_below (fin false m e) p = (refl, refl)

module _ {j : ℕ} {y : Float} {N : ℕ} (bits : ℕ) (w : Fraction) (y-is : Close j y N w.under) (test : T (leb (B⁺ ^ j * 2 ^ bits) (B ^ j * (2 ^ bits + 1)))) where
  pub close_within : Same w.over (signed false N) → WithinOfIt bits (value_of y) w
  close_within w-is = ratio_within bits (value_of y) w false (num y) N (value_above y y-is.above) w-is y-is.ratio test

  pub neg_within : Same w.over (signed true N) → WithinOfIt bits (value_of (neg y)) w
  neg_within w-is =
      let h = value_below y y-is.above in
      ratio_within bits (value_of (neg y)) w true (num y) N h.0 w-is (subst (λ (q : ℕ). Ratio j (num y) q N w.under) h.1 y-is.ratio) test
