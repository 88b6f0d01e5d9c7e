-- The code's multiple of 2P, in units of 2 ^ -59: how far it is from |x|, and the distance folded. All numbers here are the code's. Assumes nothing.
use Rattle.std.proofs.Common.{◌≡◌, ℕ, ◌+◌, ◌-◌, ◌*◌, ◌/◌, ◌^◌, ◌<◌, ◌≤◌, Bool, true, false, cond, ltb, ◌⊎◌, refl, inl, inr, mul-le-mul_left, arith, lit<, lit≤, ltb-false, ltb-true}
use native.Mathlib.Nat.{le_of_mul-le-mul_left}
use Rattle.cosine.specs.Cos.{one, turns_of, turn, multiple, gap, fold, half_turn}

-- ---- k is small, and its multiple is less than three quarters of 2P from |x|
pub turns_small : (w : ℕ) → w ≤ 2 ^ 20 → turns_of w ≤ 2 ^ 18
unfolding turns_of
turns_small w h = omega arith

-- for t * c / q just below U, a multiple k * t with k nearest to w * c / q is within a half of t, and a little, of w * U
module _ (w k c q t U : ℕ) (q⁺ : 0 < q) where
  not_above : 2 * (k * q) ≤ 2 * (w * c) + q → t * c ≤ U * q → 2 * (k * t) ≤ 2 * (w * U) + t
  not_above h l = le_of_mul-le-mul_left {k = q} (omega (arith, mul-le-mul_left t h, mul-le-mul_left (2 * w) l)) q⁺

  not_below : 2 * (w * c) ≤ 2 * (k * q) + q → U * q ≤ t * (c + 1) → 4096 * w ≤ q → 4096 * (w * U) ≤ 4096 * (k * t) + 2049 * t
  not_below h l s = le_of_mul-le-mul_left {k = q} (omega (arith, mul-le-mul_left t h, mul-le-mul_left w l, mul-le-mul_left t s)) q⁺

-- the fraction of a unit adds less than k units
parts : (k : ℕ) → (k * turn ≤ multiple k) × (multiple k ≤ k * turn + k)
unfolding multiple
parts k = (omega arith, omega arith)

pub multiple_near : (u : ℕ) → u ≤ 2 ^ 79 → 4 * gap u (multiple (turns_of (u / one))) ≤ 3 * turn
unfolding turns_of
multiple_near u h =
    let w = u / one in
    let k = turns_of w in
    go (w * one) (k * turn) k (multiple k) (omega arith) (omega arith) (turns_small w (omega arith)) (parts k).0 (parts k).1
    (not_above w k 683565275 4294967296 turn one (lit< tt) (omega arith) (lit≤ tt)) (not_below w k 683565275 4294967296 turn one (lit< tt) (omega arith) (lit≤ tt) (omega arith))
  where
    go : (v y k m : ℕ) → v ≤ u → u < v + one → k ≤ 2 ^ 18 → y ≤ m → m ≤ y + k → 2 * y ≤ 2 * v + turn → 4096 * v ≤ 4096 * y + 2049 * turn → 4 * gap u m ≤ 3 * turn
    go v y k m a b c d e f j = omega arith

-- ---- of a distance up to Q, the distance to the nearer end
pub record Folded (Q d r : ℕ) : Type 0 where
  pub is : (r ≡ d) ⊎ (r + d ≡ Q)
  pub half : 2 * r ≤ Q

pub folded : (d : ℕ) → d ≤ turn → Folded turn d (fold d)
unfolding fold
folded d h = go (ltb half_turn d) refl
  where
    go : (t : Bool) → ltb half_turn d ≡ t → Folded turn d (cond t (turn - d) d)
    go true e = let l = ltb-true half_turn d e in record { is = inr (omega arith); half = omega arith }
    go false e = let l = ltb-false half_turn d e in record { is = inl refl; half = omega arith }
