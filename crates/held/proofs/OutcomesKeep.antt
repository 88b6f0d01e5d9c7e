-- What holds either way holds of what is chosen, and what each way of preparing makes such, a frame's spectra are such. Assumes nothing.
use mathlib.Core.Bool.{Bool, true, false, cond}
use mathlib.Core.List.{List}
use lib.Dec.{eqb}
use lib.Ieee.{Float}
use Rattle.elementary.specs.Outcome.{Outcome, outside, inside, ◌then◌}
use Rattle.cepstrum.specs.Cepstrum.{mc2b_of}
use Rattle.prepare.specs.Preparing.{Spectra, both, start_if, targets_mcp, prepared_mcp, coefficients_of, targets_lsp, prepared_lsp}
use Rattle.configuration.specs.declared.Configuration.{Configuration}
use Rattle.giving.specs.Begin.{prepared_for}

-- what holds of both holds of either
pub either : {A : Type 0} (P : A → Type 0) (b : Bool) (x y : A) → P x → P y → P (cond b x y)
either P true x y h k = h
either P false x y h k = k

-- ---- outcomes

-- what is made, where it is inside, is such
abbrev pub Inside : {A : Type 0} → (A → Type 0) → Outcome A → Type 0
Inside P outside = Unit {0}
Inside P (inside a) = P a

module _ {A B : Type 0} (Q : B → Type 0) where
  pub then_such : (P : A → Type 0) (o : Outcome A) (next : A → Outcome B) → Inside P o → ((a : A) → P a → Inside Q (next a)) → Inside Q (o then next)
  then_such P outside next h k = tt
  then_such P (inside a) next h k = k a h

  -- whatever came before
  pub then_any : (o : Outcome A) (next : A → Outcome B) → ((a : A) → Inside Q (next a)) → Inside Q (o then next)
  then_any outside next k = tt
  then_any (inside a) next k = k a

-- ---- a frame's spectra, both of them

pub record Both (P : List Float → Type 0) (p : Spectra) : Type 0 where
  pub start : P p.start
  pub targets : P p.targets

module _ (P : List Float → Type 0) where
  both_such : (a b : Outcome (List Float)) → Inside P a → Inside P b → Inside (Both P) (both a b)
  both_such outside b h k = tt
  both_such (inside s) outside h k = tt
  both_such (inside s) (inside t) h k = record { start = h; targets = k }

  -- the start is the spectrum's in a first frame, and else what is now
  pub prepared_such : (c : Configuration) (first : Bool) (now spectrum : List Float) → P now
      → P (mc2b_of c.alpha spectrum) → Inside P (targets_mcp c.alpha c.beta spectrum)
      → Inside P (coefficients_of c.alpha c.log c.stage spectrum) → Inside P (targets_lsp c.alpha c.beta c.log c.stage spectrum)
      → Inside (Both P) (prepared_for c first now spectrum)
  unfolding prepared_for prepared_mcp prepared_lsp
  prepared_such c first now spectrum h mel mel-targets pairs pair-targets =
      let zero = inside (mc2b_of c.alpha spectrum) in
      let others = coefficients_of c.alpha c.log c.stage spectrum in
      either (Inside (Both P)) (eqb c.stage 0)
      (prepared_mcp c.alpha c.beta first now spectrum)
      (prepared_lsp c.alpha c.beta c.log c.stage first now spectrum)
      (both_such (start_if first zero now) (targets_mcp c.alpha c.beta spectrum) (either (Inside P) first zero (inside now) mel h) mel-targets)
      (both_such (start_if first others now) (targets_lsp c.alpha c.beta c.log c.stage spectrum) (either (Inside P) first others (inside now) pairs h) pair-targets)
