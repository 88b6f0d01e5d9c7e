-- A sample through the filter of the stage: the coefficients and all taps stay f64s. Assumes nothing.
use mathlib.Core.List.{List}
use lib.Dec.{eqb}
use lib.Ieee.{Float, binary64, ne}
use lib.Ieee.Fits.{mul-fits}
use Rattle.number.specs.F64.{◌⊗◌, ◌‼◌, 0f}
use Rattle.exponential.specs.Exp.{exp_of}
use Rattle.history.specs.Through.{Turned}
use Rattle.mlsa.specs.Mlsa as mlsa
use Rattle.mglsa.specs.Mglsa as mglsa
use Rattle.filter.specs.Sample.{sample_by}
use Rattle.filter.specs.Zero as zeroStage
use Rattle.filter.specs.NonZero as otherStages
use Rattle.configuration.specs.declared.Configuration.{Configuration}
use Rattle.drawing.specs.Step.{Filters, turn_zero, turn_nonzero, turn_of}
use Rattle.held.specs.Held.{Holds, AllHeld, HeldTaps}
use Rattle.held.proofs.OutcomesKeep.{either}
use Rattle.held.proofs.HeldLists.{held_plus}
use Rattle.held.proofs.HeldZero.{zero_stage}
use Rattle.held.proofs.HeldStages.{stages_held}

pub record HeldFilters (f : Filters) : Type 0 where
  pub c : AllHeld f.c
  pub zero : HeldTaps f.zero
  pub nonzero : AllHeld f.nonzero

pub record HeldTurned (t : Turned Filters Float) : Type 0 where
  pub sample : Holds t.sample
  pub state : HeldFilters t.state

gained_held : (c : List Float) (x : Float) → Holds x → Holds (zeroStage.gained c x)
unfolding zeroStage.gained
gained_held c x h = either Holds (ne x 0f) (x ⊗ exp_of (c ‼ 0)) x (mul-fits binary64 x (exp_of (c ‼ 0))) h

module _ (c : Configuration) (increments : List Float) (f : Filters) (x : Float) (h : HeldFilters f) (k : Holds x) where
  turn_zero_lem : HeldTurned (turn_zero c increments f x)
  unfolding sample_by
  turn_zero_lem =
      let y = zeroStage.gained f.c x in
      record {
        sample = mul-fits binary64 (mlsa.df_of c.alpha f.c f.zero y).sample c.volume;
        state = record { c = held_plus f.c increments h.c; zero = zero_stage c.alpha f.c f.zero y h.zero (gained_held f.c x k); nonzero = h.nonzero };
      }

  turn_nonzero_lem : HeldTurned (turn_nonzero c increments f x)
  unfolding sample_by
  turn_nonzero_lem =
      let y = otherStages.gained f.c x in
      record {
        sample = mul-fits binary64 (mglsa.df_of c.alpha c.stage f.c f.nonzero y).sample c.volume;
        state = record { c = held_plus f.c increments h.c; zero = h.zero; nonzero = stages_held c.alpha f.c c.stage f.nonzero y h.nonzero };
      }

  pub turn_held : HeldTurned (turn_of c increments f x)
  unfolding turn_of
  turn_held = either (λ (turn : Filters → Float → Turned Filters Float). HeldTurned (turn f x)) (eqb c.stage 0) (turn_zero c increments) (turn_nonzero c increments) turn_zero_lem turn_nonzero_lem
