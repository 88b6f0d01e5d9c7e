-- The k that the code finds: its guess is right or one too large. Assumes nothing.
use Rattle.std.proofs.Common.{◌≡◌, ℕ, zero, suc, ◌+◌, ◌-◌, ◌*◌, ◌/◌, ◌<◌, ◌≤◌, sym, subst, le_trans, not-suc-le-zero, lt_of_not-le, arith}
use native.Mathlib.Decide.{dec_le}
use Rattle.exponential.specs.Exp.{multiples}

-- k is the multiple nearest to u
abbrev pub Nearest : ℕ → ℕ → Type 0
Nearest u k = (k ≤ 1023) × (u ≤ multiples (2 * k + 1)) × (1 ≤ k → multiples (2 * k - 1) < u)

pub multiples_ge : (j : ℕ) → j * 6243314768165359 ≤ multiples j
unfolding multiples
multiples_ge j = omega arith

multiples_le : (j : ℕ) → multiples j ≤ j * 6243314768165360
unfolding multiples
multiples_le j = omega arith

-- the largest argument, 709
abbrev pub limit : ℕ
limit = 12772208543222726656

-- k is nearest by a multiple that is a little too small
abbrev pub Guess : ℕ → ℕ → Type 0
Guess u k = (k * 12486629536330718 ≤ u + 6243314768165359) × (u + 6243314768165359 < (k + 1) * 12486629536330718)

pub guess_right : (u k : ℕ) → u ≤ limit → Guess u k → (1 ≤ k → multiples (2 * k - 1) < u) → Nearest u k
guess_right u k U g h = (omega arith, let q = multiples_ge (2 * k + 1) in omega arith, h)

pub guess_large : (u k : ℕ) → u ≤ limit → Guess u k → 0 < k → u ≤ multiples (2 * k - 1) → Nearest u (k - 1)
guess_large u zero U g p h = absurd (omega arith)
guess_large u (suc k) U g p h = subst (λ (z : ℕ). Nearest u z) (sym (less k)) (omega arith, subst (λ (z : ℕ). u ≤ multiples z) (odd k) h, λ (l : 1 ≤ k). under k l g (multiples_le (2 * k - 1)))
  where
    less : (k : ℕ) → suc k - 1 ≡ k
    less k = omega arith

    odd : (k : ℕ) → 2 * suc k - 1 ≡ 2 * k + 1
    odd k = omega arith

    under : (k : ℕ) → 1 ≤ k → Guess u (suc k) → multiples (2 * k - 1) ≤ (2 * k - 1) * 6243314768165360 → multiples (2 * k - 1) < u
    under k l g q = omega arith

-- so there is one
pub nearest_of : (u : ℕ) → u ≤ limit → (k : ℕ) × Nearest u k
nearest_of u U = go ((u + 6243314768165359) / 12486629536330718) (omega arith, omega arith)
  where
    go : (k : ℕ) → Guess u k → (k : ℕ) × Nearest u k
    go k g = by (dec_le k 0) (dec_le u (multiples (2 * k - 1)))
      where
        by : Dec (k ≤ 0) → Dec (u ≤ multiples (2 * k - 1)) → (k : ℕ) × Nearest u k
        by (yes z) d = (k, guess_right u k U g (λ p. absurd (not-suc-le-zero (le_trans p z))))
        by (no z) (yes h) = (k - 1, guess_large u k U g (lt_of_not-le z) h)
        by (no z) (no h) = (k, guess_right u k U g (λ p. lt_of_not-le h))
