-- A sample at the stages from 1 on, whose filter is its rows of taps. Assumes nothing.
use Rattle.std.specs.Prelude.{List, ℕ, Float}
use Rattle.number.specs.F64.{◌⊗◌, ◌‼◌}
use Rattle.history.specs.Through.{Turned}
use Rattle.mglsa.specs.Mglsa.{df_of}
use Rattle.filter.specs.Sample.{State, sample_by}

-- multiplied by c[0]
abbrev pub gained : List Float → Float → Float
gained c x = x ⊗ c ‼ 0

abbrev pub sample_of : (alpha : Float) (stages : ℕ) (volume : Float) (increments : List Float) → State (List Float) → Float → Turned (State (List Float)) Float
sample_of alpha stages = sample_by gained (df_of alpha stages)
