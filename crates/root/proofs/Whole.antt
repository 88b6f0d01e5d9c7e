-- The nearest whole number to a root: the definition finds it, and there is only one. Assumes nothing.
use Rattle.std.proofs.Common.{◌≡◌, ℕ, zero, suc, ◌+◌, ◌-◌, ◌*◌, ◌/◌, ◌^◌, ◌<◌, ◌≤◌, Bool, true, false, cond, ltb, leb, refl, subst, le_of_suc-le-suc, mul-le-mul, le_antisymm, lt_of_not-le, arith, ltb-false, ltb-true, leb-false, leb-true}
use native.Mathlib.Nat.{pow-succ'}
use Rattle.root.specs.Root.{floor_root, nearest_root}
use Rattle.root.specs.Parts.{NearestTo}

-- r * r is the greatest square at most n
pub record Floor (n r : ℕ) : Type 0 where
  pub low : r * r ≤ n
  pub high : n < (r + 1) * (r + 1)

-- the two ways that one digit more can go
digit_more : (n r : ℕ) (t : Bool) → leb ((2 * r + 1) * (2 * r + 1)) n ≡ t → Floor (n / 4) r → Floor n (cond t (2 * r + 1) (2 * r))
digit_more n r true e h =
    let l = leb-true ((2 * r + 1) * (2 * r + 1)) n e in
    let u : n < 4 * ((r + 1) * (r + 1)) = omega (arith, h.high) in
    record { low = l; high = omega arith }
digit_more n r false e h =
    let u = leb-false ((2 * r + 1) * (2 * r + 1)) n e in
    let l : 4 * (r * r) ≤ n = omega (arith, h.low) in
    record { low = omega arith; high = u }

pub floor_is : (k n : ℕ) → n < 4 ^ k → Floor n (floor_root k n)
unfolding floor_root
floor_is zero n h = record { low = omega arith; high = h }
floor_is (suc k) n h =
    digit_more n (floor_root k (n / 4)) (leb ((2 * floor_root k (n / 4) + 1) * (2 * floor_root k (n / 4) + 1)) n) refl (floor_is k (n / 4) (quarter (4 ^ k) (subst (λ (z : ℕ). n < z) (pow-succ' 4 k) h)))
  where
    quarter : (p : ℕ) → n < 4 * p → n / 4 < p
    quarter p h = omega arith

-- a root rounded down, and what its square leaves: it is nearest, or the next number is
pub stays : (n r rest : ℕ) → r * r + rest ≡ n → 0 < n → rest ≤ r → NearestTo n r
stays n zero rest e p h = absurd (omega arith)
stays n (suc r) rest e p h = record { low = omega arith; high = omega arith }

pub moves_up : (n r rest : ℕ) → r * r + rest ≡ n → rest ≤ 2 * r → r < rest → NearestTo n (r + 1)
moves_up n r rest e f h = record { low = omega arith; high = omega arith }

pick_nearest : (n r : ℕ) (t : Bool) → ltb r (n - r * r) ≡ t → 0 < n → Floor n r → NearestTo n (cond t (r + 1) r)
pick_nearest n r true e p f = moves_up n r (n - r * r) (omega (arith, f.low)) (omega (arith, f.high)) (ltb-true r (n - r * r) e)
pick_nearest n r false e p f = stays n r (n - r * r) (omega (arith, f.low)) p (ltb-false r (n - r * r) e)

pub nearest_is : (n : ℕ) → 0 < n → n < 2 ^ 106 → NearestTo n (nearest_root n)
unfolding nearest_root
nearest_is n p h = pick_nearest n (floor_root 53 n) (ltb (floor_root 53 n) (n - floor_root 53 n * floor_root 53 n)) refl p (floor_is 53 n h)

-- two numbers that are nearest to one root are one number
not_above : (n r s : ℕ) → NearestTo n r → NearestTo n s → r < s → ⊥
not_above n r zero a b h = elim h [ ]
not_above n r (suc t) a b h = let x : r * r ≤ t * t = mul-le-mul (le_of_suc-le-suc h) (le_of_suc-le-suc h) in omega (arith, a.high, b.low)

-- where neither is less they are one
pub neither_less : {i j : ℕ} → (i < j → ⊥) → (j < i → ⊥) → i ≡ j
neither_less {i} {j} a b = le_antisymm (le_of_suc-le-suc (lt_of_not-le b)) (le_of_suc-le-suc (lt_of_not-le a))

pub one_nearest : (n r s : ℕ) → NearestTo n r → NearestTo n s → r ≡ s
one_nearest n r s a b = neither_less (not_above n r s a b) (not_above n s r b a)
