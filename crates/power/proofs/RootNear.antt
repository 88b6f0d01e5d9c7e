-- a ^ (-1 / s) put together: the powers of two cancel, so r ^ s * a is v * c ^ s. Assumes nothing.
use mathlib.Core.Path.{◌≡◌, refl, sym, ap, ◌∙◌}
use mathlib.Core.Bool.{false}
use Prim.Native.Nat.{ℕ, zero, suc, ◌+◌, ◌-◌, ◌*◌, ◌/◌, ◌%◌, ◌^◌, ◌≤◌, ◌<◌}
use native.Mathlib.Nat.{le_trans, mul-pos, eq_of_mul-eq-mul_right, one-le-pow, pow-zero, pow-suc, mod-lt, div-add-mod, div-le_self}
use native.Mathlib.Omega.{arith}
use lib.Dec.{T, lit<}
use lib.Pow.{pow-add, pow_pos}
use lib.Ieee.{Float, binary64, of_bits}
use lib.Ieee.Exact.{HasValue}
use lib.Ieee.Positive.{num, den, positive, positive_of_value, value→cross}
use Rattle.root.proofs.Parts.{H}
use Rattle.elementary.specs.Fraction.{whole, power, ◌×ᶠ◌}
use Rattle.elementary.specs.Band.{value_of, Within}
use Rattle.elementary.proofs.Ratio.{B, Ratio, ratio_same}
use Rattle.elementary.proofs.Rounding.{Close}
use Rattle.power.specs.Power.{digits, root_of_pattern}
use Rattle.power.proofs.Base.{Base, mul_pow}
use Rattle.power.proofs.Patterns.{Bits, field_value, part_close, part_least, part_most}
use Rattle.power.proofs.Search.{root_room, root_ratio}
use Rattle.power.proofs.Near.{root_within}

-- ---- powers of two
pow_pow : (x n : ℕ) → (2 ^ x) ^ n ≡ 2 ^ (n * x)
pow_pow x zero = pow-zero (2 ^ x) ∙ sym (ap (λ (z : ℕ). 2 ^ z) (none x))
  where
    none : (x : ℕ) → 0 * x ≡ 0
    none x = omega arith
pow_pow x (suc n) = pow-suc (2 ^ x) n ∙ ap (λ (z : ℕ). z * 2 ^ x) (pow_pow x n) ∙ sym (pow-add 2 (n * x) x) ∙ ap (λ (z : ℕ). 2 ^ z) (more n x)
  where
    more : (n x : ℕ) → n * x + x ≡ suc n * x
    more n x = omega arith

-- every number up to 8 divides 840
all_divide : (s : ℕ) → 1 ≤ s → s ≤ 8 → s * (840 / s) ≡ 840
all_divide zero h k = absurd (omega arith)
all_divide (suc zero) h k = refl
all_divide (suc (suc zero)) h k = refl
all_divide (suc (suc (suc zero))) h k = refl
all_divide (suc (suc (suc (suc zero)))) h k = refl
all_divide (suc (suc (suc (suc (suc zero))))) h k = refl
all_divide (suc (suc (suc (suc (suc (suc zero)))))) h k = refl
all_divide (suc (suc (suc (suc (suc (suc (suc zero))))))) h k = refl
all_divide (suc (suc (suc (suc (suc (suc (suc (suc zero)))))))) h k = refl
all_divide (suc (suc (suc (suc (suc (suc (suc (suc (suc s))))))))) h k = absurd (omega arith)

-- the answer's power of two, g, to the s-th, and the base's, e, against those of c, of v and of the units: t is s * d + r, and k is 840 / s
exponents : (s g d k e t r : ℕ) → g + d ≡ 1021 + k → s * k ≡ 840 → e ≡ t + 182 → s * d + r ≡ t → (2 ^ g) ^ s * 2 ^ e * (H * B ^ s) ≡ 2 ^ r * ((2 ^ 1074) ^ s * 2 ^ 1074)
exponents s g d k e t r i j l m =
    ap (λ (z : ℕ). z * 2 ^ e * (H * B ^ s)) (pow_pow g s) ∙ ap (λ (z : ℕ). 2 ^ (s * g) * 2 ^ e * (H * z)) (pow_pow 53 s) ∙ ap (λ (z : ℕ). 2 ^ (s * g) * 2 ^ e * z) (sym (pow-add 2 52 (s * 53)))
    ∙ ap (λ (z : ℕ). z * 2 ^ (52 + s * 53)) (sym (pow-add 2 (s * g) e)) ∙ sym (pow-add 2 (s * g + e) (52 + s * 53)) ∙ ap (λ (z : ℕ). 2 ^ z) sum
    ∙ pow-add 2 r (s * 1074 + 1074) ∙ ap (λ (z : ℕ). 2 ^ r * z) (pow-add 2 (s * 1074) 1074) ∙ sym (ap (λ (z : ℕ). 2 ^ r * (z * 2 ^ 1074)) (pow_pow 1074 s))
  where
    sum : s * g + e + (52 + s * 53) ≡ r + (s * 1074 + 1074)
    sum = let w : s * (g + d) ≡ s * (1021 + k) = ap (λ (z : ℕ). s * z) i in omega arith

-- n / d = C * P / u and m / c = E * Q / u: of the s-th power of the one times the other, the powers of two P, Q, T, u are taken out
cross : (s n d C P u m c E Q w T : ℕ) → 0 < u → n * u ≡ C * P * d → m * u ≡ E * Q * c → P ^ s * Q * w ≡ T * (u ^ s * u) → E * T * C ^ s * (d ^ s * c) ≡ n ^ s * m * w
cross s n d C P u m c E Q w T p x y z =
    eq_of_mul-eq-mul_right (u ^ s * u) (mul-pos (one-le-pow s u p) p) (E * T * C ^ s * (d ^ s * c)) (n ^ s * m * w)
    (first E T (C ^ s) (d ^ s) c (u ^ s * u) ∙ ap (λ (q : ℕ). E * C ^ s * (d ^ s * c) * q) (sym z) ∙ second E (C ^ s) (d ^ s) c (P ^ s) Q w
    ∙ ap (λ (q : ℕ). q * (E * Q * c) * w) (sym (mul_pow (C * P) d s ∙ ap (λ (q : ℕ). q * d ^ s) (mul_pow C P s))) ∙ ap (λ (q : ℕ). q ^ s * (E * Q * c) * w) (sym x) ∙ ap (λ (q : ℕ). (n * u) ^ s * q * w) (sym y)
    ∙ ap (λ (q : ℕ). q * (m * u) * w) (mul_pow n u s) ∙ third (n ^ s) (u ^ s) m u w)
  where
    first : (e t k d c q : ℕ) → e * t * k * (d * c) * q ≡ e * k * (d * c) * (t * q)
    first e t k d c q = omega arith

    second : (e k d c p q w : ℕ) → e * k * (d * c) * (p * q * w) ≡ k * p * d * (e * q * c) * w
    second e k d c p q w = omega arith

    third : (n v m u w : ℕ) → n * v * (m * u) * w ≡ n * m * w * (v * u)
    third n v m u w = omega arith

-- ---- the parts of the base's pattern b
module _ (a : Float) (s b : ℕ) (k : Base a s) (own : Bits a b) where
  abbrev t : ℕ
  t = b / H - 183

  abbrev v : Float
  v = of_bits binary64 (b % H + (t % s + 1023) * H)

  -- v = N / 2 ^ 52
  abbrev N : ℕ
  N = (H + b % H) * 2 ^ (t % s)

  abbrev m : ℕ
  m = digits v s 52 0

  -- v is from 1 to 2 ^ s
  rest : t % s < s
  rest = mod-lt t k.from

  few : t % s ≤ 8
  few = omega (arith, rest, k.upto)

  least : H ≤ N
  least = part_least (b % H) (t % s)

  most : N ≤ H * 2 ^ s
  most = part_most (b % H) (t % s) s (omega arith) rest

  turns : t / s ≤ 960
  turns = le_trans (div-le_self t s) (omega (arith, own.most))

  abbrev g : ℕ
  g = 1021 + 840 / s - t / s

  part : Close 0 v N H
  part = part_close (b % H) (t % s) (omega arith) few

  -- the answer, c * 2 ^ g in units
  abbrev z : Float
  z = of_bits binary64 (m + 1 + (1022 + 840 / s - t / s) * H)

  abbrev C : ℕ
  C = H + (m + 1)

  value : HasValue z false (C * 2 ^ g) (2 ^ 1074)
  value = let h = turns in let l = div-le_self 840 s in field_value (1022 + 840 / s - t / s) g (m + 1) (omega arith) (omega arith) (root_room v N s k.upto part least most)

  positive_answer : T (positive z)
  positive_answer = positive_of_value z (C * 2 ^ g) (2 ^ 1074) value (mul-pos {m = C} {n = 2 ^ g} (omega arith) (pow_pos g))

  ratio : Ratio 24 (num z ^ s * num a) (den z ^ s * den a) 1 1
  ratio =
      ratio_same (num z ^ s * num a) (den z ^ s * den a) (mul-pos {m = H} {n = B ^ s} (lit< tt) (one-le-pow s B (lit< tt)))
      (cross s (num z) (den z) C (2 ^ g) (2 ^ 1074) (num a) (den a) (H + b % H) (2 ^ (b / H - 1)) (H * B ^ s) (2 ^ (t % s)) (pow_pos 1074) (value→cross z (C * 2 ^ g) (2 ^ 1074) value) own.value
      (exponents s g (t / s) (840 / s) (b / H - 1) t (t % s) (let h = turns in omega arith) (all_divide s k.from k.upto) (omega (arith, own.least)) (div-add-mod t s)))
      (root_ratio v N s k.upto part least most)

  pub near_one : T (positive (root_of_pattern b s)) × Within 40 (power (value_of (root_of_pattern b s)) s ×ᶠ value_of a) (whole false 1)
  unfolding root_of_pattern
  near_one = (positive_answer, root_within z a s positive_answer k.above ratio)
