-- Words of 64 bits: the upper word of a product, and differences from lower words. Assumes nothing.
use Rattle.std.proofs.Common.{◌≡◌, ℕ, ◌+◌, ◌*◌, ◌/◌, ◌%◌, ◌^◌, refl, ◌∙◌, div-add-mod', arith}

-- ---- the upper word of a product, from halves
from_halves : (h l k m : ℕ)
    → h * k + (h * m + l * m / 2 ^ 32) / 2 ^ 32 + (l * k + (h * m + l * m / 2 ^ 32) % 2 ^ 32) / 2 ^ 32 ≡ (h * 2 ^ 32 + l) * (k * 2 ^ 32 + m) / 2 ^ 64
from_halves h l k m = omega arith

pub high_of_halves : (a b : ℕ)
    → let h = a / 2 ^ 32 in let l = a % 2 ^ 32 in let k = b / 2 ^ 32 in let m = b % 2 ^ 32 in
    h * k + (h * m + l * m / 2 ^ 32) / 2 ^ 32 + (l * k + (h * m + l * m / 2 ^ 32) % 2 ^ 32) / 2 ^ 32 ≡ a * b / 2 ^ 64
high_of_halves a b = from_halves (a / 2 ^ 32) (a % 2 ^ 32) (b / 2 ^ 32) (b % 2 ^ 32) ∙ rw (div-add-mod' a (2 ^ 32), div-add-mod' b (2 ^ 32)) refl

-- the lower word of a sum
pub lower_sum : (p q : ℕ) → (p % 2 ^ 64 + q) % 2 ^ 64 ≡ (p + q) % 2 ^ 64
lower_sum p q = omega arith
