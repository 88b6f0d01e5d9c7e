-- What is known of a stretch: it may be cut anywhere, and it is dry exactly where fewer samples are made than were asked for. Assumes nothing.
use mathlib.Core.Path.{◌≡◌}
use mathlib.Core.List.{List}
use Prim.Native.Nat.{ℕ, ◌+◌}
use lib.Dec.{ltb}
use lib.Ieee.{Float}
use lib.ListN.{length}
use Rattle.history.specs.Steps.{continued}
use Rattle.history.proofs.StepLaws.{steps_cut, steps_dry}
use Rattle.excitation.specs.Excitation.{Excitation, step_of, stretch_of}

-- a samples and then b are a + b: the samples joined, the same state after them, dry at the same place
pub stretch_cut : (bound : ℕ) (lpf : List Float) (a b : ℕ) (s : Excitation)
    → stretch_of bound lpf (a + b) s ≡ continued (stretch_of bound lpf a s) (stretch_of bound lpf b)
stretch_cut bound lpf a b s = steps_cut (step_of bound lpf) a b s

pub stretch_dry : (bound : ℕ) (lpf : List Float) (n : ℕ) (s : Excitation) → (stretch_of bound lpf n s).is_dry ≡ ltb (length (stretch_of bound lpf n s).made) n
stretch_dry bound lpf n s = steps_dry (step_of bound lpf) n s
