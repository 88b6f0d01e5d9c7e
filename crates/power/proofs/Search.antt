-- The search for the root's digits: v * c ^ s is at most 1 below them and at least 1 above them, up to the factors of the products. Assumes nothing.
use mathlib.Core.Path.{◌≡◌, sym, ap, ◌∙◌}
use mathlib.Core.Bool.{true, false}
use Prim.Native.Nat.{ℕ, ◌+◌, ◌*◌, ◌^◌, ◌≤◌, ◌<◌}
use native.Mathlib.Nat.{le_trans, le_of_eq, le_of_lt, mul_comm, mul_assoc, mul-pos, mul-le-mul, mul-le-mul_left, mul-le-mul_right, le_of_mul-le-mul_left, pow-le-pow_left, one-le-pow}
use native.Mathlib.Omega.{arith}
use lib.Dec.{T, lit<, lit≤}
use lib.Pow.{pow-add, pow_mono}
use lib.Ieee.{Float, nan, inf, fin, up, down, of_bits, lt}
use lib.Ieee.Positive.{num, den, positive, den_pos}
use borrow.Author.Tests.{ltb-true, ltb-false}
use Rattle.number.specs.F64.{1f}
use Rattle.root.proofs.Parts.{H}
use Rattle.elementary.proofs.Ratio.{B, B⁺, Ratio, ratio_more}
use Rattle.elementary.proofs.Rounding.{Close}
use Rattle.power.specs.Power.{products, digits, half}
use Rattle.power.proofs.Products.{same, Central, products_close}
use Rattle.power.proofs.Base.{mul_pow}
use Rattle.power.proofs.Patterns.{half_close}
use Rattle.power.proofs.Narrow.{Around, narrow}

-- ---- the test against 1
pub test_below : (z : Float) → T (positive z) → lt z 1f ≡ true → num z < den z
unfolding lt of_bits
test_below nan p t = absurd p
test_below (inf s) p t = absurd p
test_below (fin true m e) p t = absurd p
test_below (fin false m e) p t = go (m * up e) (down e) (ltb-true (m * up e * 1) (1 * down e) t)
  where
    go : (n d : ℕ) → n * 1 < 1 * d → n < d
    go n d h = omega arith

pub test_above : (z : Float) → T (positive z) → lt z 1f ≡ false → den z ≤ num z
unfolding lt of_bits
test_above nan p t = absurd p
test_above (inf s) p t = absurd p
test_above (fin true m e) p t = absurd p
test_above (fin false m e) p t = go (m * up e) (down e) (ltb-false (m * up e * 1) (1 * down e) t)
  where
    go : (n d : ℕ) → 1 * d ≤ n * 1 → d ≤ n
    go n d h = omega arith

-- ---- v = N / 2 ^ 52, from 1 to 2 ^ s
module _ (v : Float) (N s : ℕ) (few : s ≤ 8) (own : Close 0 v N H) (least : H ≤ N) (most : N ≤ H * 2 ^ s) where
  central : (m i : ℕ) → m ≤ H → i ≤ 8 → Central (N * (H + m) ^ i) (H * B ^ i)
  central m i h I = record { least = low; most = high }
    where
      twice : B ^ i ≤ 2 ^ i * (H + m) ^ i
      twice = le_trans (pow-le-pow_left {n = B} {m = 2 * (H + m)} (omega arith) i) (le_of_eq (mul_pow 2 (H + m) i))

      low : H * B ^ i ≤ N * (H + m) ^ i * 2 ^ 960
      low =
          le_trans (mul-le-mul least (le_trans twice (mul-le-mul_right ((H + m) ^ i) (pow_mono {i = i} {j = 960} (omega arith)))))
          (le_of_eq (ap (λ (z : ℕ). N * z) (mul_comm (2 ^ 960) ((H + m) ^ i)) ∙ sym (mul_assoc N ((H + m) ^ i) (2 ^ 960))))

      high : N * (H + m) ^ i ≤ H * B ^ i * 2 ^ 960
      high =
          le_trans (mul-le-mul (le_trans most (mul-le-mul_left H (pow_mono {i = s} {j = 960} (omega arith)))) (pow-le-pow_left {n = H + m} {m = B} (omega arith) i))
          (le_of_eq (turn (2 ^ 960) (B ^ i)))
        where
          turn : (t p : ℕ) → H * t * p ≡ H * p * t
          turn t p = omega arith

  pub tested : (m n : ℕ) → m ≤ H → n ≤ 8 → Close n (products v (half m) n) (N * (H + m) ^ n) (H * B ^ n)
  tested m n h l = products_close v (half m) N H (H + m) B n l own (half_close m h) (λ i k. central m i h (omega arith))

  pos : 0 < B ^ s
  pos = one-le-pow s B (lit< tt)

  grow : B ^ s ≤ B⁺ ^ s
  grow = pow-le-pow_left {n = B} {m = B⁺} (lit≤ tt) s

  -- what a test says of the exact product
  below : (m : ℕ) → m ≤ H → lt (products v (half m) s) 1f ≡ true → N * (H + m) ^ s ≤ H * B⁺ ^ s
  below m h t =
      let z = products v (half m) s in
      let c = tested m s h few in
      go (N * (H + m) ^ s) (num z) (den z) (B ^ s) (B⁺ ^ s) (den_pos z) pos (le_of_lt (test_below z c.above t)) c.ratio.lo
    where
      go : (x n d p q : ℕ) → 0 < d → 0 < p → n ≤ d → x * d * p ≤ n * (H * p) * q → x ≤ H * q
      go x n d p q D P l r = let w : n * (H * p * q) ≤ d * (H * p * q) = mul-le-mul_right (H * p * q) l in le_of_mul-le-mul_left {k = d * p} (omega arith) (mul-pos D P)

  above : (m : ℕ) → m ≤ H → lt (products v (half m) s) 1f ≡ false → H * B ^ s * B ^ s ≤ N * (H + m) ^ s * B⁺ ^ s
  above m h t =
      let z = products v (half m) s in
      let c = tested m s h few in
      go (N * (H + m) ^ s) (num z) (den z) (B ^ s) (B⁺ ^ s) (den_pos z) (test_above z c.above t) c.ratio.hi
    where
      go : (x n d p q : ℕ) → 0 < d → d ≤ n → n * (H * p) * p ≤ x * d * q → H * p * p ≤ x * q
      go x n d p q D l r = let w : d * (H * p * p) ≤ n * (H * p * p) = mul-le-mul_right (H * p * p) l in le_of_mul-le-mul_left {k = d} (omega arith) D

  -- v * c ^ s for the c of the digits m is at most 1, or at least 1
  abbrev Most : ℕ → Type 0
  Most m = N * (H + m) ^ s ≤ H * B⁺ ^ s

  abbrev Least : ℕ → Type 0
  Least m = H * B ^ s * B ^ s ≤ N * (H + m) ^ s * B⁺ ^ s

  -- from 1/2 to 1
  start : Around Most Least 0 (0 + 2 ^ 52)
  start = record { under = low; over = high; room = lit≤ tt }
    where
      low : N * (H + 0) ^ s ≤ H * B⁺ ^ s
      low =
          le_trans (mul-le-mul_right (H ^ s) most)
          (le_trans (le_of_eq (mul_assoc H (2 ^ s) (H ^ s) ∙ ap (λ (z : ℕ). H * z) (sym (mul_pow 2 H s)))) (mul-le-mul_left H grow))

      high : H * B ^ s * B ^ s ≤ N * (H + (0 + 2 ^ 52)) ^ s * B⁺ ^ s
      high = mul-le-mul (mul-le-mul_right (B ^ s) least) grow

  -- the digits that are found, and the number after them
  ends : Around Most Least (digits v s 52 0) (digits v s 52 0 + 1)
  ends = narrow v s Most Least below above 52 0 start

  pub root_room : digits v s 52 0 + 1 ≤ H
  root_room = ends.room

  -- the first number above the digits that are found
  pub root_ratio : Ratio 24 (N * (H + (digits v s 52 0 + 1)) ^ s) (H * B ^ s) 1 1
  root_ratio = ratio_more {i = s + (s + s)} (omega arith) (go (digits v s 52 0) ends)
    where
      next : (x y b : ℕ) → b ≤ 2 * x → y ≡ x + 1 → y * (b * b) ≤ x * ((b + 1) * (b + 1))
      next x y b h e = let w : b * b ≤ 2 * x * b = mul-le-mul_right b h in let z : y * (b * b) ≡ (x + 1) * (b * b) = ap (λ (z : ℕ). z * (b * b)) e in omega arith

      -- X and Y are the powers below and above, p and q those of 2 ^ 53 and the number after it
      hi : (X Y p q : ℕ) → N * X ≤ H * q → Y * (p * p) ≤ X * (q * q) → N * Y * 1 * (p * (p * p)) ≤ 1 * (H * p) * (q * (q * q))
      hi X Y p q h k = let a : N * X * (p * (q * q)) ≤ H * q * (p * (q * q)) = mul-le-mul_right (p * (q * q)) h in let b : N * p * (Y * (p * p)) ≤ N * p * (X * (q * q)) = mul-le-mul_left (N * p) k in omega arith

      lo : (Y p q : ℕ) → H * p * p ≤ N * Y * q → p * p ≤ q * q → 1 * (H * p) * (p * (p * p)) ≤ N * Y * 1 * (q * (q * q))
      lo Y p q h k = let a : H * p * p * (p * p) ≤ N * Y * q * (q * q) = mul-le-mul h k in omega arith

      three : (b : ℕ) → b ^ (s + (s + s)) ≡ b ^ s * (b ^ s * b ^ s)
      three b = pow-add b s (s + s) ∙ ap (λ (z : ℕ). b ^ s * z) (pow-add b s s)

      squares : (x b : ℕ) → (x * (b * b)) ^ s ≡ x ^ s * (b ^ s * b ^ s)
      squares x b = mul_pow x (b * b) s ∙ ap (λ (z : ℕ). x ^ s * z) (mul_pow b b s)

      go : (m : ℕ) → Around Most Least m (m + 1) → Ratio (s + (s + s)) (N * (H + (m + 1)) ^ s) (H * B ^ s) 1 1
      go m a =
          let k : (H + (m + 1)) ^ s * (B ^ s * B ^ s) ≤ (H + m) ^ s * (B⁺ ^ s * B⁺ ^ s) = same ◌≤◌ (squares (H + (m + 1)) B) (squares (H + m) B⁺) (pow-le-pow_left (next (H + m) (H + (m + 1)) B (omega arith) (omega arith)) s) in
          record {
            hi = same (λ (b t : ℕ). N * (H + (m + 1)) ^ s * 1 * b ≤ 1 * (H * B ^ s) * t) (sym (three B)) (sym (three B⁺)) (hi ((H + m) ^ s) ((H + (m + 1)) ^ s) (B ^ s) (B⁺ ^ s) a.under k);
            lo = same (λ (b t : ℕ). 1 * (H * B ^ s) * b ≤ N * (H + (m + 1)) ^ s * 1 * t) (sym (three B)) (sym (three B⁺)) (lo ((H + (m + 1)) ^ s) (B ^ s) (B⁺ ^ s) a.over (mul-le-mul grow grow));
          }
