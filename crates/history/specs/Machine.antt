-- A machine that is given frames and makes samples of them, and what document 01's calls answer of it. Assumes nothing.
use Rattle.std.specs.Prelude.{◌≡◌, refl, List, [], ◌∷◌, Bool, cond, ℕ, zero, suc, min, ◌-◌, eqb, ltb}
use Rattle.history.specs.Numbers.{done, voice_idle, samples_left, tap_count, nothing_left, noise_dry, buffer_short}
use Rattle.history.specs.Steps.{Step, dry, one, Run, steps}

pub record Machine : Type 1 where
  pub State : Type 0
  pub Frame : Type 0
  pub Sample : Type 0
  -- whether it can do nothing; how many samples a frame has; how many are left of the last one
  pub idle : State → Bool
  pub fperiod : State → ℕ
  pub left : State → ℕ
  -- the number that a frame is refused by, 0 where it is accepted; and the state that an accepted one leads to
  pub refusal : Frame → State → ℕ
  pub given : Frame → State → State
  -- one sample with the state after it, or dry
  pub step : State → Step State Sample

-- what a call answers: its number, the samples made, and the state after it
pub record Answer (State Sample : Type 0) : Type 0 where
  pub number : ℕ
  pub made : List Sample
  pub state : State

-- The first number whose test holds, and else 0.
pub record Row : Type 0 where
  pub test : Bool
  pub number : ℕ

infix 70 ◌⇒◌
abbrev pub ◌⇒◌ : Bool → ℕ → Row
test ⇒ number = record { test = test; number = number }

abbrev pub first_of : List Row → ℕ
first_of [] = done
first_of (r ∷ rows) = cond r.test r.number (first_of rows)

module _ {State Sample : Type 0} where
  abbrev pub answer : ℕ → List Sample → State → Answer State Sample
  answer number made state = record { number = number; made = made; state = state }

  -- by the number n: refused, or where it is 0, what there is
  abbrev pub unless : ℕ → State → Answer State Sample → Answer State Sample
  unless zero state a = a
  unless (suc n) state a = answer (suc n) [] state

  -- what so many samples come to
  abbrev pub sampled : Run State Sample → Answer State Sample
  sampled run = answer (cond run.is_dry noise_dry done) run.made run.state

module _ (M : Machine) where
  open M use {State, Frame, Sample}

  -- GIVE
  unfoldable pub gave : Frame → State → Answer State Sample
  gave frame s = unless (M.refusal frame s) s (answer done [] (M.given frame s))

  -- DRAW, where there is room for so many samples
  abbrev pub draw_refusal : State → ℕ
  draw_refusal s = first_of (M.idle s ⇒ voice_idle ∷ eqb (M.left s) 0 ⇒ nothing_left ∷ [])

  unfoldable pub drew : ℕ → State → Answer State Sample
  drew room s = unless (draw_refusal s) s (sampled (steps M.step (min room (M.left s)) s))

  -- WHOLE FRAME: give, and where that is done, draw
  abbrev pub whole_refusal : ℕ → State → ℕ
  whole_refusal room s = first_of (M.idle s ⇒ voice_idle ∷ ltb room (M.fperiod s) ⇒ buffer_short ∷ [])

  unfoldable pub whole : Frame → ℕ → State → Answer State Sample
  whole frame room s =
      let g = gave frame s in
      unless (whole_refusal room s) s (unless g.number g.state (drew room g.state))

-- A machine to show them on: a frame is a number from which two samples count down, and at 0 it is dry. 13 is refused by 5, and from 99 on it is idle.
pub record Toy : Type 0 where
  pub at : ℕ
  pub rest : ℕ

abbrev pub toy : ℕ → ℕ → Toy
toy at rest = record { at = at; rest = rest }

abbrev pub counted : ℕ → ℕ → Step Toy ℕ
counted zero rest = dry
counted (suc n) rest = one (suc n) (toy n (rest - 1))

abbrev pub toys : Machine
toys = record {
  State = Toy;
  Frame = ℕ;
  Sample = ℕ;
  idle = λ t. ltb 98 t.at;
  fperiod = λ t. 2;
  left = λ t. t.rest;
  refusal = λ f t. first_of (ltb 98 t.at ⇒ voice_idle ∷ ltb 0 t.rest ⇒ samples_left ∷ eqb f 13 ⇒ tap_count ∷ []);
  given = λ f t. toy f 2;
  step = λ t. counted t.at t.rest;
}

pub gave_done : gave toys 7 (toy 0 0) ≡ answer 0 [] (toy 7 2)
unfolding gave
gave_done = refl

-- 3 and 5 apply, and 3 stands first
pub gave_first : gave toys 13 (toy 7 2) ≡ answer 3 [] (toy 7 2)
unfolding gave
gave_first = refl

pub drew_part : drew toys 1 (toy 7 2) ≡ answer 0 (7 ∷ []) (toy 6 1)
unfolding drew steps
drew_part = refl

pub drew_all : drew toys 9 (toy 7 2) ≡ answer 0 (7 ∷ 6 ∷ []) (toy 5 0)
unfolding drew steps
drew_all = refl

-- no room, and samples left
pub drew_nothing : drew toys 0 (toy 7 2) ≡ answer 0 [] (toy 7 2)
unfolding drew steps
drew_nothing = refl

pub drew_none_left : drew toys 9 (toy 7 0) ≡ answer 10 [] (toy 7 0)
unfolding drew
drew_none_left = refl

pub drew_dry : drew toys 9 (toy 1 2) ≡ answer 11 (1 ∷ []) (toy 0 1)
unfolding drew steps
drew_dry = refl

-- idle, and nothing left
pub drew_idle : drew toys 9 (toy 99 0) ≡ answer 2 [] (toy 99 0)
unfolding drew
drew_idle = refl

pub whole_done : whole toys 7 2 (toy 0 0) ≡ answer 0 (7 ∷ 6 ∷ []) (toy 5 0)
unfolding whole gave drew steps
whole_done = refl

-- 14 and 3 apply, and 14 stands first
pub whole_short : whole toys 7 1 (toy 5 2) ≡ answer 14 [] (toy 5 2)
unfolding whole
whole_short = refl

pub whole_refused : whole toys 13 2 (toy 0 0) ≡ answer 5 [] (toy 0 0)
unfolding whole gave
whole_refused = refl

-- dry at once: as after its give
pub whole_dry : whole toys 0 2 (toy 5 0) ≡ answer 11 [] (toy 0 2)
unfolding whole gave drew steps
whole_dry = refl
