-- The code's angle is within 3 units of the exact one. |x| is A / D exactly and u / U in the code, U units to 1; G / D is 2P. Assumes nothing.
use Rattle.std.proofs.Common.{◌≡◌, ℕ, suc, ◌+◌, ◌-◌, ◌*◌, ◌/◌, ◌^◌, ◌<◌, ◌≤◌, Bool, true, false, ◌⊎◌, ap, ◌∙◌, inl, inr, mul-le-mul_right, suc-mul, mul_comm, le_antisymm, mul-le-mul_left, lt_of_not-le, div-mul-le_self, arith, lit<, lit≤}
use native.Mathlib.Nat.{mul-sub, le_of_mul-le-mul_left, lt-div-mul-add}
use native.Mathlib.Decide.{dec_le}
use Rattle.elementary.specs.Exact.{ten40, P40, nearest}
use Rattle.cosine.specs.Cos.{one, turn, multiple, gap}
use Rattle.cosine.proofs.Turns.{Folded}

-- ---- 2P in units: C / T, rounded down
abbrev T46 : ℕ
T46 = 70368744177664

abbrev C : ℕ
C = turn * T46 + 13522270992397

pi_low : C * ten40 ≤ 2 * P40 * (one * T46)
unfolding ten40 P40
pi_low = lit≤ tt

pi_high : 2 * P40 * (one * T46) ≤ (C + 1) * ten40
unfolding ten40 P40
pi_high = lit≤ tt

-- so k times it, m, is k * 2P within 2 units
module _ (k m c t l q U : ℕ) (t⁺ : 0 < t) where
  below : m * t ≤ k * c → c * l ≤ q * (U * t) → m * l ≤ k * q * U
  below h lo = le_of_mul-le-mul_left {k = t} (omega (arith, mul-le-mul_right l h, mul-le-mul_left k lo)) t⁺

  above : k * c + k ≤ m * t + 2 * t → q * (U * t) ≤ (c + 1) * l → k * q * U ≤ m * l + 2 * l
  above h hi = le_of_mul-le-mul_left {k = t} (omega (arith, mul-le-mul_right l h, mul-le-mul_left k hi)) t⁺

pub multiple_low : (k : ℕ) → multiple k * ten40 ≤ k * (2 * P40) * one
unfolding multiple
multiple_low k = below k (multiple k) C T46 ten40 (2 * P40) one (lit< tt) (omega arith) pi_low

pub multiple_high : (k : ℕ) → k ≤ 2 ^ 18 → k * (2 * P40) * one ≤ multiple k * ten40 + 2 * ten40
unfolding multiple
multiple_high k h = above k (multiple k) C T46 ten40 (2 * P40) one (lit< tt) (omega arith) pi_high

-- ---- distances
pub gap_mul : (a b c : ℕ) → gap a b * c ≡ gap (a * c) (b * c)
gap_mul a b c = go (a - b) (b - a) (mul_comm (a - b) c ∙ mul-sub c a b) (mul_comm (b - a) c ∙ mul-sub c b a)
  where
    go : (p q : ℕ) → p * c ≡ c * a - c * b → q * c ≡ c * b - c * a → (p + q) * c ≡ (a * c - b * c) + (b * c - a * c)
    go p q e f = omega arith

-- the distance of two numbers, each known within a unit or two
pub gaps : (U D X M A B : ℕ) → X * D ≤ A * U → A * U ≤ X * D + D → M * D ≤ B * U → B * U ≤ M * D + 2 * D
    → (gap X M * D ≤ gap A B * U + 2 * D) × (gap A B * U ≤ gap X M * D + 2 * D)
gaps U D X M A B a b c d = go (X * D) (M * D) (A * U) (B * U) (gap X M * D) (gap A B * U) (gap_mul X M D) (gap_mul A B U) a b c d
  where
    go : (x m p q v w : ℕ) → v ≡ gap x m → w ≡ gap p q → x ≤ p → p ≤ x + D → m ≤ q → q ≤ m + 2 * D → (v ≤ w + 2 * D) × (w ≤ v + 2 * D)
    go x m p q v w e f a b c d = (omega arith, omega arith)

-- folding keeps them near
pub fold_near : (U D G S R σ ρ : ℕ) → turn * D ≤ G * U → G * U ≤ turn * D + D → Folded turn S R → Folded G σ ρ → S * D ≤ σ * U + 2 * D → σ * U ≤ S * D + 2 * D → (R * D ≤ ρ * U + 3 * D) × (ρ * U ≤ R * D + 3 * D)
fold_near U D G S R σ ρ g g' f f' h k = go f.is f'.is (mul-le-mul_right D f.half) (mul-le-mul_right U f'.half)
  where
    go : (R ≡ S) ⊎ (R + S ≡ turn) → (ρ ≡ σ) ⊎ (ρ + σ ≡ G) → 2 * R * D ≤ turn * D → 2 * ρ * U ≤ G * U → (R * D ≤ ρ * U + 3 * D) × (ρ * U ≤ R * D + 3 * D)
    go (inl e) (inl e') x y = (omega (arith, ap (λ (z : ℕ). z * D) e, ap (λ (z : ℕ). z * U) e'), omega (arith, ap (λ (z : ℕ). z * D) e, ap (λ (z : ℕ). z * U) e'))
    go (inl e) (inr e') x y = (omega (arith, ap (λ (z : ℕ). z * D) e, ap (λ (z : ℕ). z * U) e'), omega (arith, ap (λ (z : ℕ). z * D) e, ap (λ (z : ℕ). z * U) e'))
    go (inr e) (inl e') x y = (omega (arith, ap (λ (z : ℕ). z * D) e, ap (λ (z : ℕ). z * U) e'), omega (arith, ap (λ (z : ℕ). z * D) e, ap (λ (z : ℕ). z * U) e'))
    go (inr e) (inr e') x y = (omega (arith, ap (λ (z : ℕ). z * D) e, ap (λ (z : ℕ). z * U) e'), omega (arith, ap (λ (z : ℕ). z * D) e, ap (λ (z : ℕ). z * U) e'))

-- ---- the definition's multiple is the nearest
pub nearest_half : (s : Bool) (a c : ℕ) → 0 < c → 2 * gap a (nearest s a c * c) ≤ c
unfolding nearest
nearest_half false a c p = go ((2 * a + c) / (2 * c)) (div-mul-le_self (2 * a + c) (2 * c)) (lt-div-mul-add {a = 2 * a + c} {b = 2 * c} (omega arith))
  where
    go : (q : ℕ) → q * (2 * c) ≤ 2 * a + c → 2 * a + c < q * (2 * c) + 2 * c → 2 * gap a (q * c) ≤ c
    go q h k = omega arith
nearest_half true a c p = go ((2 * a + c - 1) / (2 * c)) (div-mul-le_self (2 * a + c - 1) (2 * c)) (lt-div-mul-add {a = 2 * a + c - 1} {b = 2 * c} (omega arith))
  where
    go : (q : ℕ) → q * (2 * c) ≤ 2 * a + c - 1 → 2 * a + c - 1 < q * (2 * c) + 2 * c → 2 * gap a (q * c) ≤ c
    go q h k = omega arith

-- and the code's, less than a turn away, is that one or the one next to it
module _ (A G : ℕ) (G⁺ : 0 < G) where
  next : (j k : ℕ) → suc j ≤ k → 2 * gap A (j * G) ≤ G → gap A (k * G) < G → gap A (j * G) + gap A (k * G) ≡ G
  next j k l h f = go (dec_le k (suc j))
    where
      near : (y z : ℕ) → z ≡ y + G → 2 * gap A y ≤ G → gap A z < G → gap A y + gap A z ≡ G
      near y z e h f = omega arith

      far : (y z : ℕ) → y + 2 * G ≤ z → 2 * gap A y ≤ G → gap A z < G → ⊥
      far y z e h f = omega arith

      go : Dec (k ≤ suc j) → gap A (j * G) + gap A (k * G) ≡ G
      go (yes u) = near (j * G) (k * G) (ap (λ (z : ℕ). z * G) (le_antisymm u l) ∙ suc-mul j G) h f
      go (no n) = absurd (far (j * G) (k * G) (omega (arith, mul-le-mul_right G (lt_of_not-le n))) h f)

  before : (j k : ℕ) → suc k ≤ j → 2 * gap A (j * G) ≤ G → gap A (k * G) < G → gap A (j * G) + gap A (k * G) ≡ G
  before j k l h f = go (dec_le j (suc k))
    where
      near : (y z : ℕ) → y ≡ z + G → 2 * gap A y ≤ G → gap A z < G → gap A y + gap A z ≡ G
      near y z e h f = omega arith

      far : (y z : ℕ) → z + 2 * G ≤ y → 2 * gap A y ≤ G → gap A z < G → ⊥
      far y z e h f = omega arith

      go : Dec (j ≤ suc k) → gap A (j * G) + gap A (k * G) ≡ G
      go (yes u) = near (j * G) (k * G) (ap (λ (z : ℕ). z * G) (le_antisymm u l) ∙ suc-mul k G) h f
      go (no n) = absurd (far (j * G) (k * G) (omega (arith, mul-le-mul_right G (lt_of_not-le n))) h f)

  pub same_turn : (j k : ℕ) → 2 * gap A (j * G) ≤ G → gap A (k * G) < G → Folded G (gap A (k * G)) (gap A (j * G))
  same_turn j k h f = record { is = go (dec_le j k) (dec_le k j); half = h }
    where
      go : Dec (j ≤ k) → Dec (k ≤ j) → (gap A (j * G) ≡ gap A (k * G)) ⊎ (gap A (j * G) + gap A (k * G) ≡ G)
      go (yes a) (yes b) = inl (ap (λ (z : ℕ). gap A (z * G)) (le_antisymm a b))
      go (no a) b = inr (before j k (lt_of_not-le a) h f)
      go (yes a) (no b) = inr (next j k (lt_of_not-le b) h f)
