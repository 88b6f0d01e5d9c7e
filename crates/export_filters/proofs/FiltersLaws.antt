-- What the tests say of lengths and stages. Assumes nothing.
use mathlib.Core.Path.{◌≡◌}
use mathlib.Core.Bool.{true, ◌&&◌}
use Prim.Native.Nat.{ℕ, ◌*◌, ◌≤◌}
use borrow.Author.Tests.{eqb-true}
use lib.Dec.{eqb}
use Rattle.number.proofs.Floats.{both_first, both_second}
use Rattle.limits.specs.Limits.{entries_of, stage_of}
use Rattle.limits.proofs.LimitsLaws.{entries_in}
use Rattle.export_filters.specs.Filters.{zero_fits, nonzero_fits}

pub zero_in : (n m d11 d12 d21 d22 : ℕ) → zero_fits n m d11 d12 d21 d22 ≡ true
    → ((2 ≤ n) × (m ≡ n) × (d21 ≡ 6 * n) × (n ≤ 64)) × ((d11 ≡ 6) × (d12 ≡ 6) × (d22 ≡ 6))
zero_in n m d11 d12 d21 d22 e =
    let few = entries_in n m (both_first (entries_of n m) (eqb d21 (6 * n) && (eqb d11 6 && (eqb d12 6 && eqb d22 6))) e) in
    let lengths = both_second (entries_of n m) (eqb d21 (6 * n) && (eqb d11 6 && (eqb d12 6 && eqb d22 6))) e in
    let sixes = both_second (eqb d21 (6 * n)) (eqb d11 6 && (eqb d12 6 && eqb d22 6)) lengths in
    let last = both_second (eqb d11 6) (eqb d12 6 && eqb d22 6) sixes in (
      (few.0, few.2, eqb-true d21 (6 * n) (both_first (eqb d21 (6 * n)) (eqb d11 6 && (eqb d12 6 && eqb d22 6)) lengths), few.1),
      (eqb-true d11 6 (both_first (eqb d11 6) (eqb d12 6 && eqb d22 6) sixes), eqb-true d12 6 (both_first (eqb d12 6) (eqb d22 6) last), eqb-true d22 6 (both_second (eqb d12 6) (eqb d22 6) last)),
    )

pub nonzero_in : (n m stages d : ℕ) → nonzero_fits n m stages d ≡ true → (2 ≤ n) × (m ≡ n) × (d ≡ stages * n)
nonzero_in n m stages d e =
    let few = entries_in n m (both_first (entries_of n m) (stage_of stages && eqb d (stages * n)) e) in
    let rest = both_second (entries_of n m) (stage_of stages && eqb d (stages * n)) e in
    (few.0, few.2, eqb-true d (stages * n) (both_second (stage_of stages) (eqb d (stages * n)) rest))
