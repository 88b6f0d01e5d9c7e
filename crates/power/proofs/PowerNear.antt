-- a ^ -s by products and a quotient: s factors of 1 + 2 ^ -53. Assumes nothing.
use mathlib.Core.Path.{◌≡◌, refl, sym, ap, ◌∙◌}
use mathlib.Core.Bool.{false}
use Prim.Native.Nat.{ℕ, suc, ◌+◌, ◌*◌, ◌^◌, ◌≤◌}
use native.Mathlib.Nat.{one-mul, mul-one, pow-succ'}
use native.Mathlib.Omega.{arith}
use lib.Dec.{T, lit<}
use lib.Ieee.{Float, of_bits}
use lib.Ieee.Positive.{num, den, positive, own_value}
use Rattle.number.specs.F64.{1f, ◌⊘◌}
use Rattle.elementary.specs.Fraction.{whole, power, ◌×ᶠ◌}
use Rattle.elementary.specs.Band.{value_of, Within}
use Rattle.elementary.proofs.Ratio.{B, B⁺, Ratio, ratio_inv, ratio_more}
use Rattle.elementary.proofs.Rounding.{Ordinary, Close, close_above, close_of_value, num_above, div_close}
use Rattle.power.specs.Power.{products}
use Rattle.power.proofs.Products.{same, Central, ordinary, products_close}
use Rattle.power.proofs.Base.{Base, base_central}
use Rattle.power.proofs.Near.{power_within}

one : Close 0 1f 1 1
unfolding of_bits
one = close_of_value 1f 1 1 (lit< tt) (refl, refl)

-- s = k + 1
module _ (a : Float) (s k : ℕ) (b : Base a s) (e : s ≡ suc k) where
  own : Close 0 a (num a) (den a)
  own = close_of_value a (num a) (den a) (num_above a b.above) (own_value a b.above)

  central : (i : ℕ) → i ≤ k → Central (num a * num a ^ i) (den a * den a ^ i)
  central i h = base_central a s i b (omega (arith, b.upto))

  product : Close k (products a a k) (num a * num a ^ k) (den a * den a ^ k)
  product = products_close a a (num a) (den a) (num a) (den a) k (omega (arith, b.upto)) own own central

  quotient : Close (1 + (0 + k)) (1f ⊘ products a a k) (1 * (den a * den a ^ k)) (num a * num a ^ k * 1)
  unfolding of_bits
  quotient = div_close one product (same Ordinary (sym (one-mul (den (products a a k)))) (sym (mul-one (num (products a a k)))) o)
    where
      c : Central (num a * num a ^ k) (den a * den a ^ k)
      c = central k (omega arith)

      o : Ordinary (den (products a a k)) (num (products a a k))
      o = ordinary product.under (close_above product) (omega (arith, b.upto)) (ratio_inv product.ratio) (record { least = c.most; most = c.least })

  -- r * a ^ s against 1
  turned : (p q n d : ℕ) → Ratio 8 p q (1 * d) (n * 1) → Ratio 8 (p * n) (q * d) 1 1
  turned p q n d r = record { hi = hi (B ^ 8) (B⁺ ^ 8) r.hi; lo = lo (B ^ 8) (B⁺ ^ 8) r.lo }
    where
      hi : (t u : ℕ) → p * (n * 1) * t ≤ 1 * d * q * u → p * n * 1 * t ≤ 1 * (q * d) * u
      hi t u h = omega arith

      lo : (t u : ℕ) → 1 * d * q * t ≤ p * (n * 1) * u → 1 * (q * d) * t ≤ p * n * 1 * u
      lo t u h = omega arith

  powers : (n : ℕ) → n * n ^ k ≡ n ^ s
  powers n = sym (ap (λ (z : ℕ). n ^ z) e ∙ pow-succ' n k)

  pub near_one : T (positive (1f ⊘ products a a k)) × Within 44 (value_of (1f ⊘ products a a k) ×ᶠ power (value_of a) s) (whole false 1)
  near_one =
      let r = 1f ⊘ products a a k in
      let q = turned (num r) (den r) (num a * num a ^ k) (den a * den a ^ k) (ratio_more (omega (arith, b.upto)) quotient.ratio) in
      (quotient.above, power_within r a s quotient.above b.above (same (λ (n d : ℕ). Ratio 8 (num r * n) (den r * d) 1 1) (powers (num a)) (powers (den a)) q))
