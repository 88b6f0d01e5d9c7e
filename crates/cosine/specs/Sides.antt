-- Two series side by side: what the code promises of both. Definitions only.
use Rattle.std.specs.Prelude.{◌≡◌, ℕ, ◌*◌, ◌≤◌}
use Rattle.cosine.specs.Cos.{one, alternating}
use Rattle.cosine.specs.declared.sum.Pair.{Pair}

-- the squares of two angles
pub record Squares (a : Pair ℕ) : Type 0 where
  pub first : a.first ≤ 10 * one
  pub second : a.second ≤ 10 * one

-- of each, the n steps from the divisor pair i on
pub record Steps (a : Pair ℕ) (i n : ℕ) (p : Pair ℕ) : Type 0 where
  pub first : p.first ≡ alternating a.first i n
  pub first_most : p.first ≤ one
  pub second : p.second ≡ alternating a.second i n
  pub second_most : p.second ≤ one
