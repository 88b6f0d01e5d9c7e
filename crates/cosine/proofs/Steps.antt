-- One step of the sum in fixed point. The square of the angle is A / U in the code and ω / Ω exactly, within s units; the sum's inner part is P / U and N / E, within e units.
-- A step takes P / U to 1 - A / U * (P / U) / d, and N / E to 1 - ω / Ω * (N / E) / d. Assumes nothing.
use Rattle.std.proofs.Common.{◌≡◌, ℕ, zero, suc, ◌+◌, ◌-◌, ◌*◌, ◌≤◌, ap, le_trans, mul-le-mul_right, mul-le-mul, mul-le-mul_left, mul-pos, sub-add_cancel, arith}
use native.Mathlib.Nat.{le_of_mul-le-mul_left}

-- ---- from the code's angle R / U, within 3 units of ρ / D, both at most 3.15, to its square
pub record Angle (U R D ρ : ℕ) : Type 0 where
  pub hi : R * D ≤ ρ * U + 3 * D
  pub lo : ρ * U ≤ R * D + 3 * D
  pub small : 20 * R ≤ 63 * U
  pub most : 20 * ρ ≤ 63 * D

pub record Square (s U A Ω ω : ℕ) : Type 0 where
  pub hi : A * Ω ≤ ω * U + s * Ω
  pub lo : ω * U ≤ A * Ω + s * Ω
  pub small : A ≤ 10 * U
  pub most : ω ≤ 10 * Ω

-- the code's square, rounded down, is small
pub square_small : (U R A : ℕ) → 1 ≤ U → 20 * R ≤ 63 * U → A * U ≤ R * R → A ≤ 10 * U
square_small U R A U⁺ r h = le_of_mul-le-mul_left {k = U} (omega (arith, mul-le-mul r r)) U⁺

pub square_of : (U R D ρ A : ℕ) → 1024 ≤ U → Angle U R D ρ → A * U ≤ R * R → R * R ≤ A * U + U → Square 24 U A (D * D) (ρ * ρ)
square_of U R D ρ A big a h k = record { hi = le_of_mul-le-mul_left {k = U} up U⁺; lo = le_of_mul-le-mul_left {k = U} down U⁺; small = square_small U R A U⁺ a.small h; most = omega (arith, mul-le-mul a.most a.most) }
  where
    U⁺ : 1 ≤ U
    U⁺ = omega arith

    wide : 1024 * (D * D) ≤ U * (D * D)
    wide = mul-le-mul_right (D * D) big

    up : U * (A * (D * D)) ≤ U * (ρ * ρ * U + 24 * (D * D))
    up = omega (arith, wide, mul-le-mul_right (D * D) h, mul-le-mul a.hi a.hi, mul-le-mul_right (U * D) a.most)

    down : U * (ρ * ρ * U) ≤ U * (A * (D * D) + 24 * (D * D))
    down = omega (arith, wide, mul-le-mul_right (D * D) k, mul-le-mul a.lo a.lo, mul-le-mul_right (D * D) a.small)

-- ---- the sum's inner part
pub record Near (e U P N E : ℕ) : Type 0 where
  pub hi : P * E ≤ N * U + e * E
  pub lo : N * U ≤ P * E + e * E
  pub most : N ≤ E
  pub cap : P ≤ U
  pub pos : 1 ≤ E

-- the same fraction over another denominator
pub near_scaled : (e U P N E c k : ℕ) → 1 ≤ c → 1 ≤ k → Near e U P (c * N) (c * E) → Near e U P (k * N) (k * E)
near_scaled e U P N E c k C K n = record {
  hi = omega (arith, mul-le-mul_left k (le_of_mul-le-mul_left {m = P * E} {n = N * U + e * E} {k = c} (omega (arith, n.hi)) C));
  lo = omega (arith, mul-le-mul_left k (le_of_mul-le-mul_left {m = N * U} {n = P * E + e * E} {k = c} (omega (arith, n.lo)) C));
  most = mul-le-mul_left k (le_of_mul-le-mul_left {k = c} n.most C);
  cap = n.cap;
  pos = mul-pos K (some E n.pos);
}
  where
    some : (e : ℕ) → 1 ≤ c * e → 1 ≤ e
    some zero h = absurd (omega arith)
    some (suc e) h = omega arith

-- s and e units, of which a step with a divisor of at least 12 makes e again
pub record Budget (s e U : ℕ) : Type 0 where
  pub cross : s * e ≤ U
  pub room : 10 * e + s + 13 ≤ 12 * e

module _ (s e U A Ω ω P N E d : ℕ) (U⁺ : 1 ≤ U) (Ω⁺ : 1 ≤ Ω) (b : Budget s e U) (a : Square s U A Ω ω) (n : Near e U P N E) where
  -- what a product loses before it is divided by d
  abbrev lost : ℕ
  lost = 10 * e + s + 1

  cross : s * e * (Ω * E) ≤ U * (Ω * E)
  cross = mul-le-mul_right (Ω * E) b.cross

  exact_hi : A * Ω * (P * E) ≤ ω * N * U * U + lost * (E * Ω * U)
  exact_hi =
      let p : A * Ω * (P * E) ≤ (ω * U + s * Ω) * (N * U + e * E) = mul-le-mul a.hi n.hi in
      let q : ω * (e * (U * E)) ≤ 10 * Ω * (e * (U * E)) = mul-le-mul_right (e * (U * E)) a.most in
      let r : N * (s * (Ω * U)) ≤ E * (s * (Ω * U)) = mul-le-mul_right (s * (Ω * U)) n.most in
      let t : s * e * (Ω * E) ≤ U * (Ω * E) = cross in
      omega arith

  exact_lo : ω * U * (N * U) ≤ A * P * (Ω * E) + lost * (E * Ω * U)
  exact_lo =
      let p : ω * U * (N * U) ≤ (A * Ω + s * Ω) * (P * E + e * E) = mul-le-mul a.lo n.lo in
      let q : A * (e * (E * Ω)) ≤ 10 * U * (e * (E * Ω)) = mul-le-mul_right (e * (E * Ω)) a.small in
      let r : P * (s * (E * Ω)) ≤ U * (s * (E * Ω)) = mul-le-mul_right (s * (E * Ω)) n.cap in
      let t : s * e * (Ω * E) ≤ U * (Ω * E) = cross in
      omega arith

  product_hi : (Q : ℕ) → Q * (U * d) ≤ A * P → Q * (E * (d * Ω)) ≤ ω * N * U + lost * (E * Ω)
  product_hi Q h = go exact_hi (mul-le-mul_right (E * Ω) h)
    where
      go : A * Ω * (P * E) ≤ ω * N * U * U + lost * (E * Ω * U) → Q * (U * d) * (E * Ω) ≤ A * P * (E * Ω) → Q * (E * (d * Ω)) ≤ ω * N * U + lost * (E * Ω)
      go x y = le_of_mul-le-mul_left {k = U} (omega arith) U⁺

  product_lo : (Q : ℕ) → A * P ≤ Q * (U * d) + U * d → ω * N * U ≤ Q * (E * (d * Ω)) + E * (d * Ω) + lost * (E * Ω)
  product_lo Q h = go exact_lo (mul-le-mul_right (E * Ω) h)
    where
      go : ω * U * (N * U) ≤ A * P * (Ω * E) + lost * (E * Ω * U) → A * P * (E * Ω) ≤ (Q * (U * d) + U * d) * (E * Ω) → ω * N * U ≤ Q * (E * (d * Ω)) + E * (d * Ω) + lost * (E * Ω)
      go x y = le_of_mul-le-mul_left {k = U} (omega arith) U⁺

  module _ (d₁₂ : 12 ≤ d) where
    wide : 12 * (E * Ω) ≤ E * (d * Ω)
    wide = omega (arith, mul-le-mul_left (E * Ω) d₁₂)

    -- what is lost, and a unit, is at most e units of the wider denominator
    lost_less : lost * (E * Ω) + E * (d * Ω) ≤ e * (E * (d * Ω))
    lost_less = go e lost (omega (arith, b.room))
      where
        go : (f l : ℕ) → l + 12 ≤ 12 * f → l * (E * Ω) + E * (d * Ω) ≤ f * (E * (d * Ω))
        go zero l h = absurd (omega arith)
        go (suc f) l h = let k : l ≤ 12 * f = omega arith in omega (arith, mul-le-mul_right (E * Ω) k, mul-le-mul_left (f * (E * Ω)) d₁₂)

    exact_le : ω * N ≤ E * (d * Ω)
    exact_le = omega (arith, wide, mul-le-mul a.most n.most)

    code_le : (Q : ℕ) → Q * (U * d) ≤ A * P → Q ≤ U
    code_le Q h = le_of_mul-le-mul_left {k = U} (omega (arith, mul-le-mul a.small n.cap, mul-le-mul_left (Q * U) d₁₂)) U⁺

    pub step : (Q : ℕ) → Q * (U * d) ≤ A * P → A * P ≤ Q * (U * d) + U * d → Near e U (U - Q) (E * (d * Ω) - ω * N) (E * (d * Ω))
    step Q h k = taken (E * (d * Ω)) (U - Q) (E * (d * Ω) - ω * N) (lost * (E * Ω)) lost_less (product_hi Q h) (product_lo Q k) (sub-add_cancel (code_le Q h)) (sub-add_cancel exact_le) (mul-pos n.pos (mul-pos (le_trans (omega arith) d₁₂) Ω⁺))
      where
        taken : (F W M l : ℕ) → l + F ≤ e * F → Q * F ≤ ω * N * U + l → ω * N * U ≤ Q * F + F + l → W + Q ≡ U → M + ω * N ≡ F → 1 ≤ F → Near e U W M F
        taken F W M l w p q x y F⁺ =
            let x' : (W + Q) * F ≡ U * F = ap (λ (z : ℕ). z * F) x in
            let y' : (M + ω * N) * U ≡ F * U = ap (λ (z : ℕ). z * U) y in
            record { hi = omega arith; lo = omega arith; most = omega arith; cap = omega arith; pos = F⁺ }

-- the last step has the divisor 2
pub last_step : (s e t U A Ω ω P N E Q : ℕ) → 1 ≤ U → 1 ≤ Ω → Budget s e U → Square s U A Ω ω → Near e U P N E → 10 * e + s + 3 ≤ 2 * t → Q * (U * 2) ≤ A * P → A * P ≤ Q * (U * 2) + U * 2
    → (Q * (E * (2 * Ω)) ≤ ω * N * U + t * (E * (2 * Ω))) × (ω * N * U ≤ Q * (E * (2 * Ω)) + t * (E * (2 * Ω)))
last_step s e t U A Ω ω P N E Q U⁺ Ω⁺ b a n room h k =
    let r = mul-le-mul_right (E * Ω) room in
    (omega (arith, product_hi s e U A Ω ω P N E 2 U⁺ Ω⁺ b a n Q h), omega (arith, product_lo s e U A Ω ω P N E 2 U⁺ Ω⁺ b a n Q k))
