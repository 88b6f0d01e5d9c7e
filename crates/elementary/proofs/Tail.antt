-- What the terms after the m-th add to a partial sum, by a test at a larger argument that computes. Assumes nothing.
use mathlib.Core.Path.{◌≡◌, sym, ap, ◌∙◌}
use mathlib.Core.Bool.{Bool, true, false, ◌&&◌}
use Prim.Native.Nat.{ℕ, zero, suc, ◌+◌, ◌*◌, ◌^◌, ◌≤◌, ◌<◌}
use native.Mathlib.Nat.{le_trans, le_of_eq, le_refl, mul-le-mul, mul-le-mul_left, mul-le-mul_right, le_of_mul-le-mul_left, mul-pos, one-le-pow, mul-one, mul_assoc, pow-zero, pow-succ', pow-le-pow_left}
use native.Mathlib.Omega.{arith}
use lib.Dec.{T, leb, leb→le, lit≤}
use Rattle.elementary.specs.Fraction.{Whole, signed, scaled, ◌+ʷ◌}
use Rattle.elementary.specs.Series.{odd, product, sum_under, sum_over}
use Rattle.elementary.proofs.Sizes.{Same}
use Rattle.elementary.proofs.Ratio.{B, B⁺, Ratio}
use Rattle.elementary.proofs.Chain.{under, over, under_pos, Shrinks, shrinks_more, least}
use Rattle.elementary.proofs.Sum.{split, split_under, under_is, sum_is}

-- by which the denominator of the sum to m + 1 + d is larger than that of the sum to m
abbrev pub wider : (g : ℕ → ℕ) (Ω m d : ℕ) → ℕ
wider g Ω m d = Ω * under g Ω (suc m) d

under_product : (g : ℕ → ℕ) (Ω n : ℕ) → sum_under g Ω n ≡ product g n * Ω ^ n
unfolding sum_under product
under_product g Ω zero = sym (ap (λ (z : ℕ). g 0 * z) (pow-zero Ω) ∙ mul-one (g 0))
under_product g Ω (suc n) = ap (λ (z : ℕ). z * (g (suc n) * Ω)) (under_product g Ω n) ∙ turn (product g n) (g (suc n)) (Ω ^ n) ∙ ap (λ (z : ℕ). product g n * g (suc n) * z) (sym (pow-succ' Ω n))
  where
    turn : (p a w : ℕ) → p * w * (a * Ω) ≡ p * a * (Ω * w)
    turn p a w = omega arith

-- without signs Horner's value is larger
unsigned : (g : ℕ → ℕ) (s : Bool) (ω Ω i n : ℕ) → over g s ω Ω i n ≤ over g false ω Ω i n
unfolding over
unsigned g s ω Ω i zero = le_refl 1
unsigned g false ω Ω i (suc n) = le_refl (over g false ω Ω i (suc n))
unsigned g true ω Ω i (suc n) = omega arith

-- ω / Ω is at most κ / Κ: so are the powers, and Horner's values without signs
module _ (g : ℕ → ℕ) (ω Ω κ Κ : ℕ) (below : ω * Κ ≤ κ * Ω) where
  powers : (n : ℕ) → ω ^ n * Κ ^ n ≤ κ ^ n * Ω ^ n
  powers zero = rw (pow-zero ω, pow-zero Κ, pow-zero κ, pow-zero Ω) (le_refl 1)
  powers (suc n) = rw (pow-succ' ω n, pow-succ' Κ n, pow-succ' κ n, pow-succ' Ω n) (go (ω ^ n) (Κ ^ n) (κ ^ n) (Ω ^ n) (powers n))
    where
      go : (a b c d : ℕ) → a * b ≤ c * d → ω * a * (Κ * b) ≤ κ * c * (Ω * d)
      go a b c d h = omega (arith, mul-le-mul below h)

  values : (i n : ℕ) → over g false ω Ω i n * under g Κ i n ≤ over g false κ Κ i n * under g Ω i n
  unfolding over under
  values i zero = le_refl (1 * g i)
  values i (suc n) = go (g i) (over g false ω Ω (suc i) n) (under g Κ (suc i) n) (over g false κ Κ (suc i) n) (under g Ω (suc i) n) (values (suc i) n)
    where
      go : (a o u' o' u : ℕ) → o * u' ≤ o' * u → (Ω * u + a * (ω * o)) * (a * (Κ * u')) ≤ (Κ * u' + a * (κ * o')) * (a * (Ω * u))
      go a o u' o' u h = omega (arith, mul-le-mul_left (a * a) (mul-le-mul below h))

-- the three steps below in plain numbers: the tail is at most 1 / E;
smaller : (Ω E a b c w₀ w p o₀ o u' o' u : ℕ) → 1 ≤ b * u' → w ≡ Ω * w₀ → a * b ≤ c * w → o₀ ≤ o → o * u' ≤ o' * u → c * o' * E ≤ b * u' → a * p * o₀ * E ≤ p * w₀ * (Ω * u)
smaller Ω E a b c w₀ w p o₀ o u' o' u pos e x y z t =
    let h : a * b * (o₀ * u') ≤ c * w * (o' * u) = mul-le-mul x (le_trans (mul-le-mul_right u' y) z) in
    le_trans (le_of_mul-le-mul_left {k = b * u'} (both h) pos) (le_of_eq (ap (λ (r : ℕ). p * r * u) e ∙ turn))
  where
    turn : p * (Ω * w₀) * u ≡ p * w₀ * (Ω * u)
    turn = omega arith

    both : a * b * (o₀ * u') ≤ c * w * (o' * u) → b * u' * (a * p * o₀ * E) ≤ b * u' * (p * w * u)
    both h = omega (arith, mul-le-mul_right (p * E) h, mul-le-mul_right (p * w * u) t)

-- so the sums, which differ by it, are 1 / E apart;
apart : (b : Bool) (v w : Whole) (x y W t U E : ℕ) → x + v.minus ≡ v.plus → y + w.minus ≡ w.plus → Same v (scaled w W +ʷ signed b t) → t * E ≤ U → (x * E ≤ y * W * E + U) × (y * W * E ≤ x * E + U)
apart false v w x y W t U E e f h k = let z : x ≡ y * W + t = omega (arith, ap (λ (z : ℕ). z * W) f) in omega (arith, ap (λ (z : ℕ). z * E) z)
apart true v w x y W t U E e f h k = let z : x + t ≡ y * W = omega (arith, ap (λ (z : ℕ). z * W) f) in omega (arith, ap (λ (z : ℕ). z * E) z)

-- and where the larger sum x is at least a / c of U, that is as many factors t / b as make D + c of D
factors : (x y U E a c D b t : ℕ) → 1 ≤ D → D + c ≡ a * E → a * U ≤ c * x → b ≤ t → (D + c) * b ≤ D * t → x * E ≤ y * E + U → y * E ≤ x * E + U → (y * b ≤ x * t) × (x * b ≤ y * t)
factors x y U E a c D b t D⁺ e least f h hi lo =
    let u : x * (D + c) ≤ y * (D + c) + c * x = omega (arith, mul-le-mul_left a hi, ap (λ (z : ℕ). x * z) e, ap (λ (z : ℕ). y * z) e) in
    let v : y * (D + c) ≤ x * (D + c) + c * x = omega (arith, mul-le-mul_left a lo, ap (λ (z : ℕ). x * z) e, ap (λ (z : ℕ). y * z) e) in (
      le_of_mul-le-mul_left {k = D + c} (omega (arith, mul-le-mul_right b v, mul-le-mul_left x h, mul-le-mul_left (x * c) f)) (omega arith),
      le_of_mul-le-mul_left {k = D} (omega (arith, mul-le-mul_right b u, mul-le-mul_left y h)) D⁺,
    )

-- ---- the terms m + 1 to m + 1 + d at κ / Κ, without signs, come to at most 1 / E
abbrev pub tail_test : (g : ℕ → ℕ) (κ Κ m d E : ℕ) → Bool
tail_test g κ Κ m d E = leb (κ ^ suc m * over g false κ Κ (suc m) d * E) (Κ ^ suc m * under g Κ (suc m) d)

module _ (g : ℕ → ℕ) (s : Bool) (ω Ω κ Κ m d E : ℕ) (g⁺ : (j : ℕ) → 1 ≤ g j) (Κ⁺ : 1 ≤ Κ) (below : ω * Κ ≤ κ * Ω) (test : T (tail_test g κ Κ m d E)) where
  tail_small : ω ^ suc m * product g m * over g s ω Ω (suc m) d * E ≤ sum_under g Ω m * wider g Ω m d
  tail_small =
      rw (under_product g Ω m) (smaller Ω E (ω ^ suc m) (Κ ^ suc m) (κ ^ suc m) (Ω ^ m) (Ω ^ suc m) (product g m) (over g s ω Ω (suc m) d) (over g false ω Ω (suc m) d) (under g Κ (suc m) d) (over g false κ Κ (suc m) d) (under g Ω (suc m) d)
      (mul-pos (one-le-pow (suc m) Κ Κ⁺) (under_pos g Κ g⁺ Κ⁺ (suc m) d)) (pow-succ' Ω m) (powers g ω Ω κ Κ below (suc m)) (unsigned g s ω Ω (suc m) d) (values g ω Ω κ Κ below (suc m) d)
      (leb→le (κ ^ suc m * over g false κ Κ (suc m) d * E) (Κ ^ suc m * under g Κ (suc m) d) test))

  -- Horner's values of the two sums, over the denominator of the longer one, differ by at most 1 / E
  pub tail : Shrinks 1 1 g ω Ω 0
      → (over g s ω Ω 0 (m + suc d) * E ≤ over g s ω Ω 0 m * wider g Ω m d * E + under g Ω 0 (m + suc d)) × (over g s ω Ω 0 m * wider g Ω m d * E ≤ over g s ω Ω 0 (m + suc d) * E + under g Ω 0 (m + suc d))
  tail shrinks =
      rw (under_is g Ω (m + suc d), split_under g Ω m d)
      (apart (s && odd (suc m)) (sum_over g s ω Ω (m + suc d)) (sum_over g s ω Ω m) (over g s ω Ω 0 (m + suc d)) (over g s ω Ω 0 m) (wider g Ω m d) (ω ^ suc m * product g m * over g s ω Ω (suc m) d) (sum_under g Ω m * wider g Ω m d) E
      (sum_is g s ω Ω (m + suc d) shrinks) (sum_is g s ω Ω m shrinks) (split g s ω Ω m d (λ j l. shrinks j (omega arith))) tail_small)

  -- the same as k factors: terms shrink by p / q, so the sum is at least e / q of its first term
  pub tail_ratio : (p q e k D : ℕ) → e + p ≡ q → 0 < q → Shrinks p q g ω Ω 0 → D + q * g 0 ≡ e * E → 1 ≤ D → T (leb ((D + q * g 0) * B ^ k) (D * B⁺ ^ k))
      → Ratio k (over g s ω Ω 0 m) (under g Ω 0 m) (over g s ω Ω 0 (m + suc d)) (under g Ω 0 (m + suc d))
  tail_ratio p q e k D e-is Q shrinks D-is D⁺ test' =
      let h = tail (shrinks_more p q g ω Ω 0 (omega arith) Q shrinks) in
      let x = over g s ω Ω 0 (m + suc d) in
      let y = over g s ω Ω 0 m in
      let W = wider g Ω m d in
      let w : under g Ω 0 (m + suc d) ≡ under g Ω 0 m * W = under_is g Ω (m + suc d) ∙ split_under g Ω m d ∙ ap (λ (z : ℕ). z * W) (sym (under_is g Ω m)) in
      let r = factors x (y * W) (under g Ω 0 (m + suc d)) E e (q * g 0) D (B ^ k) (B⁺ ^ k) D⁺ D-is (le_trans (least g ω Ω s p q e e-is 0 shrinks (m + suc d)) (le_of_eq (sym (mul_assoc q (g 0) x))))
      (pow-le-pow_left (lit≤ tt) k) (leb→le ((D + q * g 0) * B ^ k) (D * B⁺ ^ k) test') h.0 h.1 in
      rw w (record { hi = hi' x y W (under g Ω 0 m) (B ^ k) (B⁺ ^ k) r.0; lo = lo' x y W (under g Ω 0 m) (B ^ k) (B⁺ ^ k) r.1 })
    where
      hi' : (x y W U b t : ℕ) → y * W * b ≤ x * t → y * (U * W) * b ≤ x * U * t
      hi' x y W U b t h = omega (arith, mul-le-mul_left U h)

      lo' : (x y W U b t : ℕ) → x * b ≤ y * W * t → x * U * b ≤ y * (U * W) * t
      lo' x y W U b t h = omega (arith, mul-le-mul_left U h)
