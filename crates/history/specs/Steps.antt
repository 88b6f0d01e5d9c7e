-- A machine that makes samples one at a time, until it runs dry. Assumes nothing.
use Rattle.std.specs.Prelude.{◌≡◌, refl, List, [], ◌∷◌, ◌++◌, Bool, true, false, cond, ℕ, zero, suc}

-- One step of it: a sample with the state after it, or none, since what it is made from is dry.
pub data Step (State Sample : Type 0) : Type 0 where
  dry : Step State Sample
  one : Sample → State → Step State Sample

-- What a number of steps come to: the samples made, the state after the last of them, and whether a step was dry.
pub record Run (State Sample : Type 0) : Type 0 where
  pub made : List Sample
  pub state : State
  pub is_dry : Bool

module _ {State Sample : Type 0} where
  abbrev pub running : List Sample → State → Run State Sample
  running made state = record { made = made; state = state; is_dry = false }

  abbrev pub stopped : List Sample → State → Run State Sample
  stopped made state = record { made = made; state = state; is_dry = true }

  -- the samples before, and then those of the run
  abbrev pub joined : List Sample → Run State Sample → Run State Sample
  joined before run = record { made = before ++ run.made; state = run.state; is_dry = run.is_dry }

  -- a step from a state, and where it is not dry, what follows
  abbrev pub onward : Step State Sample → State → (State → Run State Sample) → Run State Sample
  onward dry state follows = stopped [] state
  onward (one sample next) state follows = joined (sample ∷ []) (follows next)

  -- n steps from a state on, or as many as can be had
  unfoldable pub steps : (State → Step State Sample) → ℕ → State → Run State Sample
  steps step zero state = running [] state
  steps step (suc n) state = onward (step state) state (steps step n)

  -- a run, and where it is not dry, what follows from its state
  abbrev pub continued : Run State Sample → (State → Run State Sample) → Run State Sample
  continued run follows = cond run.is_dry run (joined run.made (follows run.state))

-- counts down to 0, and is dry there
abbrev pub countdown : ℕ → Step ℕ ℕ
countdown zero = dry
countdown (suc n) = one (suc n) n

pub two_steps : steps countdown 2 3 ≡ running (3 ∷ 2 ∷ []) 1
unfolding steps
two_steps = refl

pub dry_after_three : steps countdown 5 3 ≡ stopped (3 ∷ 2 ∷ 1 ∷ []) 0
unfolding steps
dry_after_three = refl
