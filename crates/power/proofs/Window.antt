-- The test of the digits goes from true to false once, since products of floats keep the order. So a search in a window where it does finds the digits that the whole search finds. Assumes nothing.
use mathlib.Core.Path.{◌≡◌, refl, sym, ap, ◌∙◌, subst}
use mathlib.Core.Bool.{Bool, true, false, cond}
use Prim.Native.Nat.{ℕ, zero, suc, ◌+◌, ◌-◌, ◌*◌, ◌/◌, ◌%◌, ◌^◌, ◌≤◌, ◌<◌}
use native.Mathlib.Nat.{le_refl, mul-le-mul_right, mul-lt-mul_of_pos_right, le_of_mul-le-mul_left, pow-suc}
use native.Mathlib.Omega.{arith}
use lib.Dec.{T, leb, lit<}
use lib.Ieee.{Float, binary64, of_bits, le}
use lib.Ieee.Positive.{num, den, den_pos, le→cross, cross→le, mul_mono}
use borrow.Author.Tests.{leb-true, leb-false}
use Rattle.root.proofs.Parts.{H}
use Rattle.elementary.proofs.Ratio.{B}
use Rattle.elementary.proofs.Rounding.{Close}
use Rattle.power.specs.Power.{products, digits, half}
use Rattle.power.proofs.Patterns.{half_close, part_close, part_least, part_most}
use Rattle.power.proofs.Narrow.{test, narrow}
use Rattle.power.proofs.Search.{test_below, test_above, tested}

-- ---- the numbers of the digits are in order
half_order : (j k : ℕ) → j ≤ k → k ≤ H → T (le (half j) (half k))
half_order j k l h =
    let J = half_close j (omega arith) in
    let K = half_close k h in
    cross→le (half j) (half k) J.above K.above (go (num (half j)) (den (half j)) (num (half k)) (den (half k)) J.ratio.hi K.ratio.lo)
  where
    go : (n d n' d' : ℕ) → n * B * 1 ≤ (H + j) * d * 1 → (H + k) * d' * 1 ≤ n' * B * 1 → n * d' ≤ n' * d
    go n d n' d' p q =
        le_of_mul-le-mul_left {k = B}
        (let a : n * B * d' ≤ (H + j) * d * d' = mul-le-mul_right d' (omega arith) in
        let b : (H + k) * d' * d ≤ n' * B * d = mul-le-mul_right d (omega arith) in
        let c : j * (d * d') ≤ k * (d * d') = mul-le-mul_right (d * d') l in
        omega arith)
        (lit< tt)

-- ---- v = N / 2 ^ 52, from 1 to 2 ^ s
module _ (v : Float) (N s : ℕ) (few : s ≤ 8) (own : Close 0 v N H) (least : H ≤ N) (most : N ≤ H * 2 ^ s) where
  -- i products keep the order
  ordered : (j k i : ℕ) → j ≤ k → k ≤ H → i ≤ 8 → T (le (products v (half j) i) (products v (half k) i))
  unfolding products
  ordered j k zero l h I = cross→le v v own.above own.above (le_refl (num v * den v))
  ordered j k (suc i) l h I =
      mul_mono binary64 (products v (half j) i) (products v (half k) i) (half j) (half k) (tested v N s few own least most j i (omega arith) (omega arith)).above (tested v N s few own least most k i h (omega arith)).above
      (half_close j (omega arith)).above (half_close k h).above (ordered j k i l h (omega arith)) (half_order j k l h)

  -- where a number passes, every smaller one does
  passes : (j k : ℕ) → j ≤ k → k ≤ H → test v s k ≡ true → test v s j ≡ true
  passes j k l h t = go (test v s j) refl
    where
      never : (n d n' d' : ℕ) → 0 < d → d ≤ n → n' < d' → n * d' ≤ n' * d → ⊥
      never n d n' d' D p q r = omega (arith, mul-le-mul_right d' p, mul-lt-mul_of_pos_right q D)

      go : (b : Bool) → test v s j ≡ b → b ≡ true
      go true e = refl
      go false e =
          let x = products v (half j) s in
          let y = products v (half k) s in
          let X = tested v N s few own least most j s (omega arith) few in
          let Y = tested v N s few own least most k s h few in
          absurd (never (num x) (den x) (num y) (den y) (den_pos x) (test_above x X.above e) (test_below y Y.above t) (le→cross x y X.above Y.above (ordered j k s l h few)))

  -- where it fails, every larger one does
  fails : (j k : ℕ) → j ≤ k → k ≤ H → test v s j ≡ false → test v s k ≡ false
  fails j k l h t = go (test v s k) refl
    where
      go : (b : Bool) → test v s k ≡ b → b ≡ false
      go true e = sym (passes j k l h e) ∙ t
      go false e = refl

  -- the place where the test turns is what a search around it finds
  place : (n m r : ℕ) → m ≤ r → r < m + 2 ^ n → m + 2 ^ n ≤ H → test v s r ≡ true → test v s (r + 1) ≡ false → digits v s n m ≡ r
  unfolding digits
  place zero m r l u h p q = omega arith
  place (suc n) m r l u h p q = go (λ k. place n k r) (leb (m + 2 ^ n) r) refl
    where
      double : (p : ℕ) → m + p * 2 ≡ m + p + p
      double p = omega arith

      twice : m + 2 ^ suc n ≡ m + 2 ^ n + 2 ^ n
      twice = ap (λ (z : ℕ). m + z) (pow-suc 2 n) ∙ double (2 ^ n)

      below : r < m + 2 ^ n + 2 ^ n
      below = subst (λ (z : ℕ). r < z) twice u

      room : m + 2 ^ n + 2 ^ n ≤ H
      room = subst (λ (z : ℕ). z ≤ H) twice h

      next : (b : Bool) → test v s (m + 2 ^ n) ≡ b → digits v s n (cond b (m + 2 ^ n) m) ≡ r → digits v s n (cond (test v s (m + 2 ^ n)) (m + 2 ^ n) m) ≡ r
      next b e d = ap (λ (z : Bool). digits v s n (cond z (m + 2 ^ n) m)) e ∙ d

      go : ((k : ℕ) → k ≤ r → r < k + 2 ^ n → k + 2 ^ n ≤ H → test v s r ≡ true → test v s (r + 1) ≡ false → digits v s n k ≡ r) → (b : Bool) → leb (m + 2 ^ n) r ≡ b → digits v s n (cond (test v s (m + 2 ^ n)) (m + 2 ^ n) m) ≡ r
      go rest true e = let g : m + 2 ^ n ≤ r = leb-true (m + 2 ^ n) r e in next true (passes (m + 2 ^ n) r g (omega arith) p) (rest (m + 2 ^ n) g below room p q)
      go rest false e = let g : r < m + 2 ^ n = leb-false (m + 2 ^ n) r e in next false (fails (r + 1) (m + 2 ^ n) (omega arith) (omega arith) q) (rest m l g (omega arith) p q)

  -- a search from a number that passes up to one that fails
  alike : (n m : ℕ) → m + 2 ^ n ≤ H → test v s m ≡ true → test v s (m + 2 ^ n) ≡ false → digits v s n m ≡ digits v s 52 0
  alike n m h p q =
      let a = narrow v s (λ k. test v s k ≡ true) (λ k. test v s k ≡ false) (λ k l t. t) (λ k l t. t) n m (record { under = p; over = q; room = h }) in
      sym (place 52 0 (digits v s n m) (omega arith) (omega arith) (omega arith) a.under a.over)

-- ---- v by its pattern
pub in_window : (b s n m : ℕ) → 1023 * H ≤ b → b < (1023 + s) * H → s ≤ 8 → m + 2 ^ n ≤ H → test (of_bits binary64 b) s m ≡ true → test (of_bits binary64 b) s (m + 2 ^ n) ≡ false → digits (of_bits binary64 b) s n m ≡ digits (of_bits binary64 b) s 52 0
in_window b s n m l u h =
    let r : ℕ = b / H - 1023 in
    let few : r < s = omega arith in
    let e : b % H + (r + 1023) * H ≡ b = omega arith in
    let own : Close 0 (of_bits binary64 b) ((H + b % H) * 2 ^ r) H = subst (λ (z : ℕ). Close 0 (of_bits binary64 z) ((H + b % H) * 2 ^ r) H) e (part_close (b % H) r (omega arith) (omega arith)) in
    alike (of_bits binary64 b) ((H + b % H) * 2 ^ r) s h own (part_least (b % H) r) (part_most (b % H) r s (omega arith) few) n m
