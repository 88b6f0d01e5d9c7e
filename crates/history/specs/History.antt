-- Demand 3, as one statement over histories of calls, for any machine: this is what there is to read, and nothing is proved here. Assumes nothing.
use Rattle.std.specs.Prelude.{◌≡◌, refl, List, [], ◌∷◌, ◌++◌, ℕ, zero, suc, length}
use Rattle.history.specs.Numbers.{done, noise_dry}
use Rattle.history.specs.Steps.{steps}
use Rattle.history.specs.Machine.{Machine, Answer, answer, unless, sampled, gave, drew, whole, toy, toys}

-- what a save answers: its number, and the bytes written
pub record Saved (Bytes : Type 0) : Type 0 where
  pub number : ℕ
  pub bytes : Bytes

module _ {State Sample : Type 0} where
  -- samples made before, and then an answer
  abbrev pub preceded : List Sample → Answer State Sample → Answer State Sample
  preceded xs a = answer a.number (xs ++ a.made) a.state

  -- by the number n of a: what follows where it is done, and else a itself
  abbrev pub onwards : ℕ → Answer State Sample → (State → Answer State Sample) → Answer State Sample
  onwards zero a follows = preceded a.made (follows a.state)
  onwards (suc n) a follows = a

  infixl 20 ◌then◌
  -- an answer, and where it is done, what follows from its state, samples joined
  abbrev pub ◌then◌ : Answer State Sample → (State → Answer State Sample) → Answer State Sample
  a then follows = onwards a.number a follows

module _ (M : Machine) where
  open M use {State, Frame, Sample}

  -- The other calls: open, save into a buffer of so many bytes, and restore into a voice; the meter; and what a caller can hand in at all (a program's numbers are f64, and the logic has more).
  pub record Calls : Type 1 where
    pub Configuration : Type 0
    pub Bytes : Type 0
    pub opened : Configuration → Answer State Sample
    pub saved : ℕ → State → Saved Bytes
    pub restored : Bytes → State → Answer State Sample
    pub meter : State → ℕ
    pub openable : Configuration → Type 0
    pub givable : Frame → Type 0

  -- UNCUT: a frame given and its fperiod samples; and frames one after the other, up to one that is refused or dry. Neither draw nor rooms are named.
  unfoldable pub framed : Frame → State → Answer State Sample
  framed f s = gave M f s then (λ t. sampled (steps M.step (M.fperiod t) t))

  unfoldable pub uncut : List Frame → State → Answer State Sample
  uncut [] s = answer done [] s
  uncut (f ∷ fs) s = framed f s then uncut fs

pub two_uncut : uncut toys (7 ∷ 9 ∷ []) (toy 0 0) ≡ answer 0 (7 ∷ 6 ∷ 9 ∷ 8 ∷ []) (toy 7 0)
unfolding uncut framed gave steps
two_uncut = refl

pub refused_uncut : uncut toys (7 ∷ 13 ∷ 9 ∷ []) (toy 0 0) ≡ answer 5 (7 ∷ 6 ∷ []) (toy 5 0)
unfolding uncut framed gave steps
refused_uncut = refl

pub dry_uncut : uncut toys (7 ∷ 1 ∷ 9 ∷ []) (toy 0 0) ≡ answer 11 (7 ∷ 6 ∷ 1 ∷ []) (toy 0 1)
unfolding uncut framed gave steps
dry_uncut = refl

module _ {M : Machine} (K : Calls M) where
  open M use {State, Frame, Sample}
  open K use {Configuration, Bytes}

  -- THE CALLS. `resume` saves and, where that is done, restores what was just saved into any voice and goes on with that one.
  pub data Call : Type 0 where
    give : Frame → Call
    draw : (room : ℕ) → Call
    whole_frame : Frame → (room : ℕ) → Call
    save : (room : ℕ) → Call
    restore : Bytes → Call
    resume : (room : ℕ) → (into : State) → Call

  -- a way to answer them
  abbrev pub Answers : Type 0
  Answers = Call → State → Answer State Sample

  -- What a history, any list of calls, comes to: the frames that give or whole frame answered 0 to, the samples joined, and the state after it.
  pub record Told : Type 0 where
    pub frames : List Frame
    pub made : List Sample
    pub state : State

  abbrev pub accepted_by : ℕ → Frame → List Frame
  accepted_by zero f = f ∷ []
  accepted_by (suc n) f = []

  abbrev pub accepted : Call → ℕ → List Frame
  accepted (give f) n = accepted_by n f
  accepted (draw room) n = []
  accepted (whole_frame f room) n = accepted_by n f
  accepted (save room) n = []
  accepted (restore b) n = []
  accepted (resume room into) n = []

  unfoldable pub told : Answers → List Call → State → Told
  told answers [] s = record { frames = []; made = []; state = s }
  told answers (c ∷ h) s =
      let a = answers c s in
      let t = told answers h a.state in
      record { frames = accepted c a.number ++ t.frames; made = a.made ++ t.made; state = t.state }

  -- No draw ran dry, no records but those just saved were taken (a refused restore is allowed), and the frames can be handed in.
  abbrev pub Fine : Call → ℕ → Type 0
  Fine (give f) n = K.givable f
  Fine (draw room) n = n ≡ noise_dry → ⊥
  Fine (whole_frame f room) n = K.givable f × (n ≡ noise_dry → ⊥)
  Fine (save room) n = Unit {0}
  Fine (restore b) n = n ≡ done → ⊥
  Fine (resume room into) n = Unit {0}

  unfoldable pub Smooth : Answers → List Call → State → Type 0
  Smooth answers [] s = Unit {0}
  Smooth answers (c ∷ h) s = Fine c (answers c s).number × Smooth answers h (answers c s).state

  -- DEMAND 3: where nothing is left of the last frame, the frames accepted, run uncut from the voice just opened, are accepted there too, none is dry,
  -- and they give these joined samples and this end state; and at every moment the meter is the number of the samples joined.
  unfoldable pub Demand3 : Answers → Type 0
  Demand3 answers =
      (c : Configuration) (h : List Call) →
      let s = (K.opened c).state in
      let t = told answers h s in
      K.openable c →
      (K.opened c).number ≡ done →
      Smooth answers h s →
      (M.left t.state ≡ 0 → uncut M t.frames s ≡ answer done t.made t.state)
      × (K.meter t.state ≡ length t.made)

  -- THE ANSWERS of document 01
  unfoldable pub answered : Answers
  answered (give f) s = gave M f s
  answered (draw room) s = drew M room s
  answered (whole_frame f room) s = whole M f room s
  answered (save room) s = answer (K.saved room s).number [] s
  answered (restore b) s = K.restored b s
  answered (resume room into) s = unless (K.saved room s).number s (K.restored (K.saved room s).bytes into)
