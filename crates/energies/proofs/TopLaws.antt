-- The latest patterns, a place at a time from the end on; and of the responses, with one more entry of each. Assumes nothing.
use mathlib.Core.Path.{◌≡◌, subst, ◌∙◌}
use mathlib.Core.List.{List}
use mathlib.Core.Logic.{◌⊎◌, inl, inr}
use Prim.Native.Nat.{ℕ, ◌+◌, ◌*◌, ◌≤◌, ◌<◌}
use native.Mathlib.Nat.{le_trans, eq-or-lt_of_le, lt_of_not-le}
use native.Mathlib.Decide.{dec_le}
use native.Mathlib.Omega.{arith}
use lib.ListN.{length, get_or, set, length-set}
use lib.Seq.{get_or-set_same, get_or-set_other}
use lib.Ieee.{Float, nan}
use Rattle.number.specs.F64.{◌‼◌}
use Rattle.lost.specs.Lost.{UpTo}
use Rattle.energies.specs.Sizes.{Tops, Highest}

-- a later pattern bounds as much
further : (p q : ℕ) (x : Float) → p ≤ q → UpTo p x → UpTo q x
further p q x h u = record { held = u.held; size = le_trans u.size h }

-- ---- the tops from place k on

pub record TopsFrom (k top : ℕ) (t : List ℕ) (w : List Float) : Type 0 where
  pub here : (j : ℕ) → k ≤ j → j < 1152 → UpTo top (w ‼ j)
  pub there : (i j : ℕ) → k ≤ i → i ≤ j → j < 1152 → UpTo (get_or t i 0) (w ‼ j)

pub tops_all : (top : ℕ) (t : List ℕ) (w : List Float) → TopsFrom 0 top t w → Tops 1152 t w
tops_all top t w h = λ i j a b. h.there i j (omega arith) a b

-- one place further to the front
pub tops_more : (k top next : ℕ) (t : List ℕ) (w : List Float) → k < length t → top ≤ next → UpTo next (w ‼ k) → TopsFrom (k + 1) top t w
    → TopsFrom k next (set t k next) w
tops_more k top next t w long up own h = record { here = all; there = λ i j a b c. at i j (eq-or-lt_of_le a) b c }
  where
    all : (j : ℕ) → k ≤ j → j < 1152 → UpTo next (w ‼ j)
    all j a b = elim (eq-or-lt_of_le a) [
      | inl e ↦ subst (λ (i : ℕ). UpTo next (w ‼ i)) e own
      | inr l ↦ further top next (w ‼ j) up (h.here j (omega arith) b)
    ]

    at : (i j : ℕ) → (k ≡ i) ⊎ (k < i) → i ≤ j → j < 1152 → UpTo (get_or (set t k next) i 0) (w ‼ j)
    at i j (inl e) b c = subst (λ (i : ℕ). UpTo (get_or (set t k next) i 0) (w ‼ j)) e (rw (get_or-set_same t k next 0 long) (all j (omega arith) c))
    at i j (inr l) b c = rw (get_or-set_other t k i next 0 (λ z. omega arith)) (h.there i j (omega arith) b c)

-- ---- the responses

pub highest_more : (p q s n : ℕ) (r : List Float) (x y : Float) → 2 * n + 1 < length r → p ≤ q → UpTo q x → q ≤ s → UpTo s y → Highest p n r
    → Highest s (n + 1) (set (set r (2 * n) x) (2 * n + 1) y)
highest_more p q s n r x y long a b c d h j l = at (dec_le (j + 1) (2 * n)) (dec_le (j + 1) (2 * n + 1))
  where
    now : List Float
    now = set (set r (2 * n) x) (2 * n + 1) y

    first : now ‼ (2 * n) ≡ x
    first = get_or-set_other (set r (2 * n) x) (2 * n + 1) (2 * n) y nan (λ z. omega arith) ∙ get_or-set_same r (2 * n) x nan (omega arith)

    second : now ‼ (2 * n + 1) ≡ y
    second = get_or-set_same (set r (2 * n) x) (2 * n + 1) y nan (simp length-set long)

    at : Dec (j + 1 ≤ 2 * n) → Dec (j + 1 ≤ 2 * n + 1) → UpTo s (now ‼ j)
    at (yes k) m =
        let kept : now ‼ j ≡ r ‼ j = get_or-set_other (set r (2 * n) x) (2 * n + 1) j y nan (λ z. omega arith) ∙ get_or-set_other r (2 * n) j x nan (λ z. omega arith) in
        rw kept (further p s (r ‼ j) (le_trans a c) (h j (omega (arith, k))))
    at (no k) (yes m) =
        let is : j ≡ 2 * n = omega (arith, lt_of_not-le k) in
        rw (is, first) (further q s x c b)
    at (no k) (no m) =
        let is : j ≡ 2 * n + 1 = omega (arith, lt_of_not-le m) in
        rw (is, second) d
