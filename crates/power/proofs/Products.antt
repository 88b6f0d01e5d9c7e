-- A chain of products of floats: a factor of 1 + 2 ^ -53 each. Assumes nothing.
use mathlib.Core.Path.{◌≡◌, sym, ap, ◌∙◌, subst}
use Prim.Native.Nat.{ℕ, zero, suc, ◌+◌, ◌*◌, ◌^◌, ◌≤◌, ◌<◌}
use native.Mathlib.Nat.{le_trans, mul_assoc, mul-one, mul-pos, mul-le-mul_left, pow-zero, pow-suc}
use native.Mathlib.Omega.{arith}
use lib.Dec.{lit≤}
use lib.Pow.{pow_mono}
use lib.Ieee.{Float, binary64, mul}
use Rattle.elementary.proofs.Ratio.{Ratio, ratio_mul, ratio_more}
use Rattle.elementary.proofs.Rounding.{Ordinary, Close, close_above, mul_close, ordinary_of}
use Rattle.power.specs.Power.{products}

-- what holds of two numbers holds of equal ones
pub same : (P : ℕ → ℕ → Type 0) {a a' c c' : ℕ} → a ≡ a' → c ≡ c' → P a c → P a' c'
same P {a} {a'} {c} {c'} e f p = subst (λ (z : ℕ). P z c') e (subst (λ (z : ℕ). P a z) f p)

-- ---- a fraction that stays off the ends of the range: from 2 ^ -960 to 2 ^ 960
pub record Central (a c : ℕ) : Type 0 where
  pub least : c ≤ a * 2 ^ 960
  pub most : a ≤ c * 2 ^ 960

-- a few factors lead to no end
pub ordinary : {k p q a c : ℕ} → 0 < a → 0 < c → k ≤ 8 → Ratio k p q a c → Central a c → Ordinary p q
ordinary {k} {p} {q} {a} {c} A C K r m =
    ordinary_of {k = 8} A C (lit≤ tt) (ratio_more K r) (le_trans m.least (mul-le-mul_left a (pow_mono {i = 960} {j = 1021} (lit≤ tt)))) (le_trans m.most (mul-le-mul_left c (pow_mono {i = 960} {j = 1022} (lit≤ tt))))

-- one product more
step : (a d n : ℕ) → a * d ^ n * d ≡ a * d ^ suc n
step a d n = mul_assoc a (d ^ n) d ∙ ap (λ (z : ℕ). a * z) (sym (pow-suc d n))

-- x is a / b and c is d / e, exactly
pub products_close : (x c : Float) (a b d e n : ℕ) → n ≤ 8 → Close 0 x a b → Close 0 c d e → ((i : ℕ) → i ≤ n → Central (a * d ^ i) (b * e ^ i)) → Close n (products x c n) (a * d ^ n) (b * e ^ n)
unfolding products
products_close x c a b d e zero N X C m = same (Close 0 x) (first a d) (first b e) X
  where
    first : (a d : ℕ) → a ≡ a * d ^ 0
    first a d = sym (ap (λ (z : ℕ). a * z) (pow-zero d) ∙ mul-one a)
products_close x c a b d e (suc n) N X C m =
    let P : Close n (products x c n) (a * d ^ n) (b * e ^ n) = products_close x c a b d e n (omega arith) X C (λ i h. m i (omega arith)) in
    let mid : Central (a * d ^ n * d) (b * e ^ n * e) = same Central (sym (step a d n)) (sym (step b e n)) (m (suc n) (omega arith)) in
    let o = ordinary (mul-pos (close_above P) (close_above C)) (mul-pos P.under C.under) (omega arith) (ratio_mul P.ratio C.ratio) mid in
    same (Close (suc n) (mul binary64 (products x c n) c)) (step a d n) (step b e n)
    (subst (λ (k : ℕ). Close k (mul binary64 (products x c n) c) (a * d ^ n * d) (b * e ^ n * e)) (count n) (mul_close P C o))
  where
    count : (n : ℕ) → 1 + (n + 0) ≡ suc n
    count n = omega arith
