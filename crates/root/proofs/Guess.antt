-- What the square of a guess leaves of a number: the exact test. Assumes nothing.
use Rattle.std.proofs.Common.{◌≡◌, ℕ, ◌+◌, ◌-◌, ◌*◌, ◌/◌, ◌%◌, ◌^◌, ◌<◌, ◌≤◌, subst, mul-le-mul, arith}

-- two numbers of 27 digits have a product of 54
pub product27 : (h l : ℕ) → h < 2 ^ 27 → l < 2 ^ 27 → h * l ≤ 2 ^ 54
product27 h l a b = let x : h * l ≤ 2 ^ 27 * 2 ^ 27 = mul-le-mul {n₁ = h} {m₁ = l} {n₂ = 2 ^ 27} {m₂ = 2 ^ 27} (omega arith) (omega arith) in omega arith

-- a difference that wraps and is small is the exact one
exact : (a b c : ℕ) → c ≡ (a + (2 ^ 64 - b)) % 2 ^ 64 → c < 2 ^ 63 → b ≤ 2 ^ 54 → a < 2 ^ 64 → c + b ≡ a
exact a b c e s t u = omega arith

-- the square of h * 2 ^ 27 + l, taken off in three steps
three_steps : (m h l a d rest : ℕ) → a + h * h ≡ m → d + h * l ≡ a * 67108864 → rest + l * l ≡ d * 268435456 → (h * 134217728 + l) * (h * 134217728 + l) + rest ≡ m * 2 ^ 54
three_steps m h l a d rest f g k = omega arith

-- the same of q itself, which is h and l put together, with differences that wrap
pub left : (m q a d rest : ℕ) → m < 2 ^ 54 → q < 2 ^ 54 → a ≡ (m + (2 ^ 64 - q / 134217728 * (q / 134217728))) % 2 ^ 64 → d ≡ (a * 67108864 + (2 ^ 64 - q / 134217728 * (q % 134217728))) % 2 ^ 64
    → rest ≡ (d * 268435456 + (2 ^ 64 - q % 134217728 * (q % 134217728))) % 2 ^ 64 → a < 2 ^ 28 → d < 2 ^ 32 → rest < 2 ^ 63 → q * q + rest ≡ m * 2 ^ 54
left m q a d rest few small e₁ e₂ e₃ s₁ s₂ s₃ =
    let h = q / 134217728 in
    let l = q % 134217728 in
    subst (λ (w : ℕ). w * w + rest ≡ m * 2 ^ 54) (join q)
    (three_steps m h l a d rest (exact m (h * h) a e₁ (omega arith) (product27 h h (high q small) (high q small)) (omega arith)) (exact (a * 67108864) (h * l) d e₂ (omega arith) (product27 h l (high q small) (low q)) (omega arith)) (exact (d * 268435456) (l * l) rest e₃ s₃ (product27 l l (low q) (low q)) (omega arith)))
  where
    join : (q : ℕ) → q / 134217728 * 134217728 + q % 134217728 ≡ q
    join q = omega arith

    high : (q : ℕ) → q < 2 ^ 54 → q / 134217728 < 2 ^ 27
    high q h = omega arith

    low : (q : ℕ) → q % 134217728 < 2 ^ 27
    low q = omega arith
