-- A search for digits keeps what its tests say: P of the number found, Q of the one after it. Assumes nothing.
use mathlib.Core.Path.{◌≡◌, refl, ap, ◌∙◌, subst}
use mathlib.Core.Bool.{Bool, true, false, cond}
use Prim.Native.Nat.{ℕ, zero, suc, ◌+◌, ◌*◌, ◌^◌, ◌≤◌}
use native.Mathlib.Nat.{pow-suc}
use native.Mathlib.Omega.{arith}
use lib.Ieee.{Float, lt}
use Rattle.number.specs.F64.{1f}
use Rattle.root.proofs.Parts.{H}
use Rattle.power.specs.Power.{products, digits, half}

-- the test of the digits m
abbrev pub test : Float → ℕ → ℕ → Bool
test v s m = lt (products v (half m) s) 1f

-- what is sought lies from lo to hi
pub record Around (P Q : ℕ → Type 0) (lo hi : ℕ) : Type 0 where
  pub under : P lo
  pub over : Q hi
  pub room : hi ≤ H

module _ (v : Float) (s : ℕ) (P Q : ℕ → Type 0) (passed : (m : ℕ) → m ≤ H → test v s m ≡ true → P m) (failed : (m : ℕ) → m ≤ H → test v s m ≡ false → Q m) where
  -- n digits more
  pub narrow : (n m : ℕ) → Around P Q m (m + 2 ^ n) → Around P Q (digits v s n m) (digits v s n m + 1)
  unfolding digits
  narrow zero m a = a
  narrow (suc n) m a = turn (narrow n) (test v s (m + 2 ^ n)) refl
    where
      double : (p : ℕ) → m + p * 2 ≡ m + p + p
      double p = omega arith

      wide : Around P Q m (m + 2 ^ n + 2 ^ n)
      wide = subst (λ (z : ℕ). Around P Q m z) (ap (λ (z : ℕ). m + z) (pow-suc 2 n) ∙ double (2 ^ n)) a

      room : m + 2 ^ n ≤ H
      room = go (2 ^ n) wide.room
        where
          go : (p : ℕ) → m + p + p ≤ H → m + p ≤ H
          go p h = omega arith

      turn : ((k : ℕ) → Around P Q k (k + 2 ^ n) → Around P Q (digits v s n k) (digits v s n k + 1)) → (b : Bool) → test v s (m + 2 ^ n) ≡ b → Around P Q (digits v s n (cond b (m + 2 ^ n) m)) (digits v s n (cond b (m + 2 ^ n) m) + 1)
      turn rest true t = rest (m + 2 ^ n) (record { under = passed (m + 2 ^ n) room t; over = wide.over; room = wide.room })
      turn rest false t = rest m (record { under = wide.under; over = failed (m + 2 ^ n) room t; room = room })
