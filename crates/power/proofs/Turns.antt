-- A turn of the search for the root's digits: the digit to try, and what it leaves to find. Assumes nothing.
use mathlib.Core.Path.{◌≡◌, refl, sym, ap, ◌∙◌, subst}
use mathlib.Core.Bool.{Bool, cond}
use Prim.Native.Nat.{ℕ, suc, ◌+◌, ◌*◌, ◌%◌, ◌^◌, ◌≤◌, ◌<◌}
use native.Mathlib.Nat.{one-mul, mod-eq_of_lt, lt_of_le_of_lt, pow-suc}
use native.Mathlib.Omega.{arith}
use lib.Dec.{lit<}
use lib.Pow.{pow_mono}
use lib.Ieee.{Float, lt}
use Rattle.number.specs.F64.{1f}
use Rattle.power.specs.Power.{products, digits, half}

-- the weight of the digit, as the code shifts it, and the room below 2 ^ 52 for two of it
pub record Digit (m k : ℕ) : Type 0 where
  pub weight : 1 * 2 ^ k % 18446744073709551616 ≡ 2 ^ k
  pub room : m + 2 ^ k + 2 ^ k ≤ 2 ^ 52

pub digit : (m n k : ℕ) → n ≡ suc k → n ≤ 52 → m + 2 ^ n ≤ 2 ^ 52 → Digit m k
digit m n k e h r =
    record {
      weight = ap (λ (z : ℕ). z % 18446744073709551616) (one-mul (2 ^ k)) ∙ mod-eq_of_lt (lt_of_le_of_lt (pow_mono {i = k} {j = 52} (omega arith)) (lit< tt));
      room = go (2 ^ k) (subst (λ (z : ℕ). m + z ≤ 2 ^ 52) (ap (λ (z : ℕ). 2 ^ z) e ∙ pow-suc 2 k) r);
    }
  where
    go : (p : ℕ) → m + p * 2 ≤ 2 ^ 52 → m + p + p ≤ 2 ^ 52
    go p h = omega arith

-- w is the digit's weight, b what the test said
pub turn : (v : Float) (s n k m w : ℕ) (b : Bool) → n ≡ suc k → w ≡ 2 ^ k → lt (products v (half (m + w)) s) 1f ≡ b → digits v s k (cond b (m + w) m) ≡ digits v s n m
unfolding digits
turn v s n k m w b i j t =
    subst (λ (z : ℕ). digits v s k (cond b (m + z) m) ≡ digits v s n m) (sym j)
    (ap (λ (z : Bool). digits v s k (cond z (m + 2 ^ k) m)) (sym t ∙ ap (λ (z : ℕ). lt (products v (half (m + z)) s) 1f) j) ∙ sym (ap (λ (z : ℕ). digits v s z m) i))

none_left : (v : Float) (s m : ℕ) → m ≡ digits v s 0 m
unfolding digits
none_left v s m = refl

-- the last turn
pub found : (v : Float) (s n m r : ℕ) → n ≡ 0 → m + 2 ^ n ≤ 2 ^ 52 → digits v s n m ≡ r → (m ≡ r) × (m < 2 ^ 52)
found v s n m r e h d = (none_left v s m ∙ sym (ap (λ (z : ℕ). digits v s z m) e) ∙ d, omega (arith, subst (λ (z : ℕ). m + 2 ^ z ≤ 2 ^ 52) e h))
