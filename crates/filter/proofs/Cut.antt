-- THE CUT of a stretch, of either kind: its samples may be filtered in parts, cut anywhere. The samples joined, the coefficients and the
-- taps are those of the uncut stretch. Assumes nothing.
use mathlib.Core.Path.{◌≡◌}
use mathlib.Core.List.{List, ◌++◌}
use Prim.Native.Nat.{ℕ}
use lib.Ieee.{Float}
use Rattle.history.specs.Through.{◌before◌, through}
use Rattle.history.proofs.ThroughLaws.{through_cut}
use Rattle.mlsa.specs.declared.MelLogSpectrumApproximation.{MelLogSpectrumApproximation}
use Rattle.filter.specs.Sample.{State}
use Rattle.filter.specs.Zero as zero
use Rattle.filter.specs.NonZero as nonzero

module _ (alpha volume : Float) (increments xs ys : List Float) where
  pub zero_cut : (s : State MelLogSpectrumApproximation)
      → through (zero.sample_of alpha volume increments) s (xs ++ ys)
      ≡ (through (zero.sample_of alpha volume increments) s xs).made
      before through (zero.sample_of alpha volume increments) (through (zero.sample_of alpha volume increments) s xs).state ys
  zero_cut s = through_cut (zero.sample_of alpha volume increments) s xs ys

  pub nonzero_cut : (stages : ℕ) (s : State (List Float))
      → through (nonzero.sample_of alpha stages volume increments) s (xs ++ ys)
      ≡ (through (nonzero.sample_of alpha stages volume increments) s xs).made
      before through (nonzero.sample_of alpha stages volume increments) (through (nonzero.sample_of alpha stages volume increments) s xs).state ys
  nonzero_cut stages s = through_cut (nonzero.sample_of alpha stages volume increments) s xs ys
