-- Restoring an older save, as one statement over histories of calls, for any machine: nothing is proved here. Assumes nothing.
use Rattle.std.specs.Prelude.{◌≡◌, List, [], ℕ, ◌+◌, ◌<◌, length, get_or}
use Rattle.history.specs.Numbers.{done}
use Rattle.history.specs.Machine.{Machine, Answer, answer}
use Rattle.history.specs.History.{Calls, Call, Answers, Told, told, Smooth}

module _ {M : Machine} (K : Calls M) where
  open M use {State, Sample}
  open K use {Configuration}

  -- Two histories from s: the sample at place i is made at the meter reading of s and i more; the samples are the same at every place that both have made, and with as many of them the states are.
  pub record Alike (s : State) (t u : Told K) : Type 0 where
    pub readings : (K.meter t.state ≡ K.meter s + length t.made) × (K.meter u.state ≡ K.meter s + length u.made)
    pub samples : (i : ℕ) (z : Sample) → i < length t.made → i < length u.made → get_or t.made i z ≡ get_or u.made i z
    pub states : length t.made ≡ length u.made → t.state ≡ u.state

  -- A voice that a restore brought back goes on as the one that was saved, s: it is s, its meter with it, and from the same frames the same is made again as when s went on.
  abbrev pub GoesOn : Answers K → State → Answer State Sample → (onward again : List (Call K)) → Type 0
  GoesOn answers s back onward again =
      let t = told K answers onward s in
      let u = told K answers again back.state in
      Smooth K answers onward s →
      Smooth K answers again back.state →
      (back ≡ answer done [] s) × (t.frames ≡ u.frames → Alike s t u)

  -- OLDER SAVES: so it is, after any history and into any voice, with a save that was done.
  unfoldable pub Older : Answers K → Type 0
  Older answers =
      (c : Configuration) (before onward again : List (Call K)) (room : ℕ) (into : State) →
      let s = (told K answers before (K.opened c).state).state in
      K.openable c →
      (K.opened c).number ≡ done →
      Smooth K answers before (K.opened c).state →
      (K.saved room s).number ≡ done →
      GoesOn answers s (K.restored (K.saved room s).bytes into) onward again
