-- A machine that feeds another may be run first, and the other over all its samples. Assumes nothing.
use mathlib.Core.Path.{◌≡◌, refl, sym, ap, ◌∙◌}
use mathlib.Core.List.{List, [], ◌∷◌}
use Prim.Native.Nat.{ℕ, zero, suc}
use Rattle.history.specs.Steps.{Step, dry, one, Run, joined, onward, steps}
use Rattle.history.specs.Through.{Turned, Passage, through}
use Rattle.history.specs.Feeding.{Feeding, feeding, turned_by, fed, within}

module _ {Source Sink Sample : Type 0} (turn : Sink → Sample → Turned Sink Sample) where
  -- a run of the first, and all its samples through the second
  unfoldable pub then_through : Run Source Sample → Sink → Run (Feeding Source Sink) Sample
  then_through run sink =
      let p = through turn sink run.made in
      record { made = p.made; state = feeding run.state p.state; is_dry = run.is_dry }

  module _ (step : Source → Step Source Sample) where
    fed_one : (n : ℕ) → ((source : Source) (sink : Sink) → steps (fed step turn) n (feeding source sink) ≡ then_through (steps step n source) sink)
        → (t : Step Source Sample) (source : Source) (sink : Sink)
        → onward (turned_by turn t sink) (feeding source sink) (steps (fed step turn) n) ≡ then_through (onward t source (steps step n)) sink
    unfolding then_through through
    fed_one n h dry source sink = refl
    fed_one n h (one x next) source sink =
        ap (λ (r : Run (Feeding Source Sink) Sample). joined ((turn sink x).sample ∷ []) r) (h next (turn sink x).state)

    -- TWO PASSES: the samples, the states and the place where it is dry are those of the steps one by one.
    pub fed_steps : (n : ℕ) (source : Source) (sink : Sink) → steps (fed step turn) n (feeding source sink) ≡ then_through (steps step n source) sink
    unfolding steps then_through through
    fed_steps zero source sink = refl
    fed_steps (suc n) source sink = fed_one n (fed_steps n) (step source) source sink

-- ---- a machine inside a larger state

module _ {State Part Sample : Type 0} (get : State → Part) (put : Part → State → State) (turn : Part → Sample → Turned Part Sample) where
  abbrev pub put_passage : State → Passage Part Sample → Passage State Sample
  put_passage s p = record { made = p.made; state = put p.state s }

  -- turns a part of the state: the rest of it stays
  pub through_within : ((s : State) → put (get s) s ≡ s) → ((p : Part) (s : State) → get (put p s) ≡ p) → ((p q : Part) (s : State) → put p (put q s) ≡ put p s)
      → (s : State) (xs : List Sample) → through (within get put turn) s xs ≡ put_passage s (through turn (get s) xs)
  unfolding through
  through_within same got over s [] = ap (λ (t : State). record { made = []; state = t }) (sym (same s))
  through_within same got over s (x ∷ xs) =
      let t = turn (get s) x in
      ap (λ (p : Passage State Sample). record { made = t.sample ∷ p.made; state = p.state })
      (through_within same got over (put t.state s) xs ∙ rw (got t.state s, over (through turn t.state xs).state t.state s) refl)
