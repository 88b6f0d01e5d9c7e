-- A machine whose samples go through another. Assumes nothing.
use Rattle.std.specs.Prelude.{◌≡◌, refl, [], ◌∷◌, ℕ}
use Rattle.history.specs.Steps.{Step, dry, one, steps, running, countdown}
use Rattle.history.specs.Through.{Turned, adding}

-- the state of both
pub record Feeding (Source Sink : Type 0) : Type 0 where
  pub source : Source
  pub sink : Sink

abbrev pub feeding : {Source Sink : Type 0} → Source → Sink → Feeding Source Sink
feeding source sink = record { source = source; sink = sink }

module _ {Source Sink Sample : Type 0} where
  -- what the second makes of a step of the first
  abbrev pub turned_by : (Sink → Sample → Turned Sink Sample) → Step Source Sample → Sink → Step (Feeding Source Sink) Sample
  turned_by turn dry sink = dry
  turned_by turn (one x source) sink = let t = turn sink x in one t.sample (feeding source t.state)

  -- one step of both
  abbrev pub fed : (Source → Step Source Sample) → (Sink → Sample → Turned Sink Sample) → Feeding Source Sink → Step (Feeding Source Sink) Sample
  fed step turn s = turned_by turn (step s.source) s.sink

-- 3, 2, counted down, each added to what came before
pub two_fed : steps (fed countdown adding) 2 (feeding 3 1) ≡ running (4 ∷ 6 ∷ []) (feeding 1 6)
unfolding steps
two_fed = refl

-- A machine that turns a part of a larger state, got from it and put back.
abbrev pub within : {State Part Sample : Type 0} → (State → Part) → (Part → State → State) → (Part → Sample → Turned Part Sample) → State → Sample → Turned State Sample
within get put turn s x = let t = turn (get s) x in record { sample = t.sample; state = put t.state s }

-- the first of two numbers, and the second stays
pub one_within : within (λ (s : Feeding ℕ ℕ). s.source) (λ n s. feeding n s.sink) adding (feeding 1 7) 2 ≡ record { sample = 3; state = feeding 3 7 }
one_within = refl
