-- What the tests say of lengths and stages, and a slice of one entry. Assumes nothing.
use mathlib.Core.Path.{◌≡◌, refl}
use mathlib.Core.List.{List, [], ◌∷◌}
use mathlib.Core.Bool.{true, ◌&&◌}
use Prim.Native.Nat.{ℕ, ◌≤◌}
use native.Mathlib.Omega.{arith}
use borrow.Author.Tests.{leb-true, eqb-true}
use lib.Dec.{leb, eqb}
use lib.Ieee.{Float}
use lib.ListN.{length, set}
use Rattle.number.proofs.Floats.{both_first, both_second}
use Rattle.limits.specs.Limits.{entries_of, stage_of}

pub entries_in : (n m : ℕ) → entries_of n m ≡ true → (2 ≤ n) × (n ≤ 64) × (m ≡ n) × (1 ≤ n)
entries_in n m e =
    let rest = both_second (leb 2 n) (leb n 64 && eqb m n) e in
    let two = leb-true 2 n (both_first (leb 2 n) (leb n 64 && eqb m n) e) in
    (two, leb-true n 64 (both_first (leb n 64) (eqb m n) rest), eqb-true m n (both_second (leb n 64) (eqb m n) rest), omega arith)

pub stage_in : (s : ℕ) → stage_of s ≡ true → s ≤ 8
stage_in s e = leb-true s 8 (both_second (leb 1 s) (leb s 8) e)

-- a slice of one entry
pub one_entry : (l : List Float) (x : Float) → length l ≡ 1 → set l 0 x ≡ x ∷ []
one_entry [] x h = absurd (omega arith)
one_entry (y ∷ []) x h = refl
one_entry (y ∷ z ∷ l) x h = absurd (omega arith)
