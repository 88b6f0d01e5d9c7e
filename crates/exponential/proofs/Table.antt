-- `multiples j` is j times ln 2 rounded down, and never exact but at 0: a test for each j below 2048, computed. Assumes nothing.
use Rattle.std.proofs.Common.{◌≡◌, ℕ, zero, suc, ◌*◌, ◌^◌, ◌<◌, ◌≤◌, Bool, true, ◌&&◌, T, ltb, ◌⊎◌, sym, subst, inl, inr, le_of_suc-le-suc, not-suc-le-zero, le_of_lt, eq-or-lt_of_le, lit<, lit≤, ltb→lt}
use lib.Ieee.Fits.{and_l, and_r}
use Rattle.elementary.specs.Exact.{ten40, L40}
use Rattle.exponential.specs.Exp.{multiples}

passes : ℕ → Bool
unfolding ten40 L40 multiples
passes j = ltb (multiples j * ten40) (j * L40 * 2 ^ 53) && ltb (j * L40 * 2 ^ 53) (suc (multiples j) * ten40)

-- 1 to n pass
all : ℕ → Bool
unfolding passes
all zero = true
all (suc n) = passes (suc n) && all n

look : (n j : ℕ) → T (all n) → j < n → T (passes (suc j))
unfolding all
look zero j t h = absurd (not-suc-le-zero h)
look (suc n) j t h = go (eq-or-lt_of_le (le_of_suc-le-suc h)) (look n j (and_r (passes (suc n)) (all n) t))
  where
    go : (j ≡ n) ⊎ (j < n) → (j < n → T (passes (suc j))) → T (passes (suc j))
    go (inl e) k = subst (λ (z : ℕ). T (passes (suc z))) (sym e) (and_l (passes (suc n)) (all n) t)
    go (inr l) k = k l

checked : T (all 2047)
unfolding all
checked = tt

pub above_floor : (j : ℕ) → suc j < 2048 → multiples (suc j) * ten40 < suc j * L40 * 2 ^ 53
unfolding passes
above_floor j h =
    let m = multiples (suc j) * ten40 in
    let x = suc j * L40 * 2 ^ 53 in
    ltb→lt m x (and_l (ltb m x) (ltb x (suc (multiples (suc j)) * ten40)) (look 2047 j checked (le_of_suc-le-suc h)))

pub floor_le : (j : ℕ) → j < 2048 → multiples j * ten40 ≤ j * L40 * 2 ^ 53
unfolding multiples ten40 L40
floor_le zero h = lit≤ tt
floor_le (suc j) h = le_of_lt (above_floor j h)

pub below_next : (j : ℕ) → j < 2048 → j * L40 * 2 ^ 53 < suc (multiples j) * ten40
unfolding passes multiples ten40 L40
below_next zero h = lit< tt
below_next (suc j) h =
    let m = multiples (suc j) * ten40 in
    let x = suc j * L40 * 2 ^ 53 in
    ltb→lt x (suc (multiples (suc j)) * ten40) (and_r (ltb m x) (ltb x (suc (multiples (suc j)) * ten40)) (look 2047 j checked (le_of_suc-le-suc h)))
