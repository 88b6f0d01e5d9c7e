-- A finished sample, whatever the gain and the filter. Assumes nothing.
use Rattle.std.specs.Prelude.{List, Float}
use Rattle.number.specs.F64.{◌⊗◌}
use Rattle.vectors.specs.Vectors.{plus}
use Rattle.history.specs.Through.{Turned}

-- what a sample goes on from: the coefficients, and the filter
pub record State (Filter : Type 0) : Type 0 where
  pub c : List Float
  pub filter : Filter

abbrev pub state : {Filter : Type 0} → List Float → Filter → State Filter
state c filter = record { c = c; filter = filter }

-- gain, filter, the coefficients on by their increments, volume
unfoldable pub sample_by : {Filter : Type 0} (gain : List Float → Float → Float) (df : List Float → Filter → Float → Turned Filter Float)
    → (volume : Float) (increments : List Float) → State Filter → Float → Turned (State Filter) Float
sample_by gain df volume increments s x =
    let f = df s.c s.filter (gain s.c x) in
    record { sample = f.sample ⊗ volume; state = state (plus s.c increments) f.state }
