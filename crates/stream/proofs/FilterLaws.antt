-- A sample through the filter of the stage changes what is in use of it alone, and nothing of the other filter. Assumes nothing.
use mathlib.Core.Path.{◌≡◌, refl, sym, ◌∙◌}
use mathlib.Core.Bool.{Bool, true, false, false≢true}
use mathlib.Core.List.{List}
use Prim.Native.Nat.{◌*◌, ◌≤◌}
use lib.Dec.{eqb}
use lib.ListN.{length}
use lib.Ieee.{Float}
use Rattle.mlsa.specs.declared.MelLogSpectrumApproximation.{MelLogSpectrumApproximation}
use Rattle.filter.specs.Sample.{sample_by}
use Rattle.filter.specs.Zero as zeroStage
use Rattle.filter.specs.NonZero as otherStages
use Rattle.configuration.specs.declared.Configuration.{Configuration}
use Rattle.drawing.specs.Step.{Filters, turn_zero, turn_nonzero, turn_of}
use Rattle.stream.proofs.PastLaws.{Past, past_same}
use Rattle.stream.proofs.ZeroLaws.{SameTaps, same_taps, zero_past}
use Rattle.stream.proofs.StageLaws.{stages_past}

-- both filters before and after: what is past the rows in use stays, and so does all of the one that is not in use
pub record SameRows (c : Configuration) (f g : MelLogSpectrumApproximation) (d e : List Float) : Type 0 where
  pub zero : SameTaps (6 * c.nmcp) f g
  pub nonzero : Past (c.stage * c.nmcp) d e
  pub other_zero : eqb c.stage 0 ≡ false → g ≡ f
  pub other_nonzero : eqb c.stage 0 ≡ true → e ≡ d

pub same_rows : (c : Configuration) (f : MelLogSpectrumApproximation) (d : List Float) → SameRows c f f d d
same_rows c f d = record { zero = same_taps (6 * c.nmcp) f; nonzero = past_same (c.stage * c.nmcp) d; other_zero = λ e. refl; other_nonzero = λ e. refl }

module _ (c : Configuration) (increments : List Float) (f : Filters) (x : Float) (n : length f.c ≡ c.nmcp) where
  turned_zero : eqb c.stage 0 ≡ true → 6 ≤ length f.zero.d11 → 6 * c.nmcp ≤ length f.zero.d21
      → SameRows c f.zero (turn_zero c increments f x).state.zero f.nonzero (turn_zero c increments f x).state.nonzero
  unfolding sample_by
  turned_zero e h k = record {
    zero = rw n at (zero_past c.alpha f.c f.zero (zeroStage.gained f.c x) h (rw n k));
    nonzero = past_same (c.stage * c.nmcp) f.nonzero;
    other_zero = λ z. absurd (false≢true (sym z ∙ e));
    other_nonzero = λ z. refl;
  }

  turned_nonzero : eqb c.stage 0 ≡ false → c.stage * c.nmcp ≤ length f.nonzero
      → SameRows c f.zero (turn_nonzero c increments f x).state.zero f.nonzero (turn_nonzero c increments f x).state.nonzero
  unfolding sample_by
  turned_nonzero e k = record {
    zero = same_taps (6 * c.nmcp) f.zero;
    nonzero = rw n at (stages_past c.alpha f.c c.stage f.nonzero (otherStages.gained f.c x) (rw n k));
    other_zero = λ z. refl;
    other_nonzero = λ z. absurd (false≢true (sym e ∙ z));
  }

  pub turn_same : 6 ≤ length f.zero.d11 → 6 * c.nmcp ≤ length f.zero.d21 → c.stage * c.nmcp ≤ length f.nonzero
      → SameRows c f.zero (turn_of c increments f x).state.zero f.nonzero (turn_of c increments f x).state.nonzero
  unfolding turn_of
  turn_same h k l = go (eqb c.stage 0) refl
    where
      go : (b : Bool) → eqb c.stage 0 ≡ b → SameRows c f.zero (turn_of c increments f x).state.zero f.nonzero (turn_of c increments f x).state.nonzero
      go true e = rw e (turned_zero e h k)
      go false e = rw e (turned_nonzero e l)
