-- A sample at stage 0. Assumes nothing.
use Rattle.std.specs.Prelude.{◌≡◌, cond, List, [], ◌∷◌, ℕ, zero, suc, ◌<◌, Float}
use Rattle.std.specs.Float.Ieee.{ne}
use Rattle.number.specs.F64.{◌⊕◌, ◌⊗◌, 0f, ◌‼◌}
use Rattle.exponential.specs.Exp.{sum_at, exp_of}
use Rattle.history.specs.Through.{Turned}
use Rattle.mlsa.specs.declared.MelLogSpectrumApproximation.{MelLogSpectrumApproximation}
use Rattle.mlsa.specs.Mlsa.{df_of}
use Rattle.filter.specs.Sample.{State, sample_by}

-- multiplied by exp(c[0]), only where the sample is not 0
unfoldable pub gained : List Float → Float → Float
gained c x = cond (ne x 0f) (x ⊗ exp_of (c ‼ 0)) x

abbrev pub sample_of : (alpha volume : Float) (increments : List Float) → State MelLogSpectrumApproximation → Float → Turned (State MelLogSpectrumApproximation) Float
sample_of alpha = sample_by gained (df_of alpha)

-- ---- the same in two: the gains of all samples, and then the rest

-- the gain by c[0] alone, which goes on by its increment
abbrev pub gain_of : Float → Float → Float → Turned Float Float
gain_of increment c0 x = record { sample = gained (c0 ∷ []) x; state = c0 ⊕ increment }

-- a sample that has its gain
abbrev pub filtered_of : (alpha volume : Float) (increments : List Float) → State MelLogSpectrumApproximation → Float → Turned (State MelLogSpectrumApproximation) Float
filtered_of alpha = sample_by (λ c x. x) (df_of alpha)

-- c[0] after n samples
unfoldable pub on_by : (increment start : Float) → ℕ → Float
on_by increment start zero = start
on_by increment start (suc n) = on_by increment start n ⊕ increment

-- the parts of exp for n samples: the sums at the rests, times the powers
abbrev pub Prepared : (increment start : Float) → ℕ → (rests powers : List Float) → Type 0
Prepared increment start n rests powers = (i : ℕ) → i < n → sum_at (rests ‼ i) ⊗ (powers ‼ i) ≡ exp_of (on_by increment start i)
