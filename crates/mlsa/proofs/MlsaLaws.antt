-- The rows of a part that are left, a turn on; and where a row of taps lies. Assumes nothing.
use mathlib.Core.Path.{◌≡◌, refl}
use Prim.Native.Nat.{ℕ, suc, ◌+◌, ◌-◌, ◌*◌, ◌≤◌, ◌<◌}
use native.Mathlib.Omega.{arith}
use native.Mathlib.Nat.{mul-le-mul_right}
use lib.Ieee.{Float}
use Rattle.history.specs.Through.{Turned}
use mathlib.Core.List.{List}
use Rattle.mlsa.specs.declared.MelLogSpectrumApproximation.{MelLogSpectrumApproximation}
use Rattle.mlsa.specs.Mlsa.{Part, downward, passed, df1_of, df2_of, filter, df_of}

module _ (one : ℕ → Part → Part) (i : ℕ) (p : Part) where
  -- row i - 1 is next, and none is where i is 1
  pub down_turn : 1 < i → downward one (i - 1 - 1) (one (i - 1) p) ≡ downward one (i - 1) p
  unfolding downward
  down_turn h =
      let below : i - 1 - 1 ≡ i - 2 = omega arith in
      let left : i - 1 ≡ suc (i - 2) = omega arith in
      rw (below, left) refl

  pub down_end : i ≤ 1 → downward one (i - 1) p ≡ p
  unfolding downward
  down_end h =
      let none : i - 1 ≡ 0 = omega arith in
      rw none refl

-- one of m rows of n lies within them
pub row_within : (m k n l : ℕ) → k < m → m * n ≤ l → k * n + n ≤ l
row_within m k n l h fits =
    let before : suc k * n ≤ m * n = mul-le-mul_right n (omega arith) in
    omega arith

-- and so does one of m rows that begin further on
pub rows_from : (m k n from l : ℕ) → k < m → from + m * n ≤ l → from + k * n + n ≤ l
rows_from m k n from l h fits =
    let within : k * n + n ≤ m * n = row_within m k n (m * n) h (omega arith) in
    omega arith

-- both parts, by what each comes to
pub df_of_lem : (alpha : Float) (c : List Float) (f : MelLogSpectrumApproximation) (x y r : Float) (d11 d12 d21 d22 : List Float)
    → passed d11 d12 y ≡ df1_of alpha c f.d11 f.d12 x → passed d21 d22 r ≡ df2_of alpha c f.d21 f.d22 y
    → ◌≡◌ {A = Turned MelLogSpectrumApproximation Float} (record { sample = r; state = filter d11 d12 d21 d22 }) (df_of alpha c f x)
unfolding df_of
df_of_lem alpha c f x y r d11 d12 d21 d22 first second = rw (← first, ← second) refl
