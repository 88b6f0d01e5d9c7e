-- The machine of `Machine` with a meter, a save and a restore, and a history of its calls, computed. Assumes nothing.
use Rattle.std.specs.Prelude.{◌≡◌, refl, List, [], ◌∷◌, ℕ, zero, suc, ◌+◌, ◌<◌, ltb}
use Rattle.history.specs.Numbers.{done, limit_broken, voice_idle, records_longer, records_wrong}
use Rattle.history.specs.Steps.{Step, dry, one, steps}
use Rattle.history.specs.Machine.{Machine, Answer, answer, ◌⇒◌, first_of, gave, drew, whole, Toy, toy, toys}
use Rattle.history.specs.History.{Calls, framed, uncut, Call, give, draw, whole_frame, save, restore, resume, Answers, told, answered}

-- The toy, what its meter says, and padding, which no save holds and which is 0 in every voice that was opened or restored.
pub record Metered : Type 0 where
  pub toy : Toy
  pub meter : ℕ
  pub padding : ℕ

abbrev pub metered : (at rest meter padding : ℕ) → Metered
metered at rest meter padding = record { toy = toy at rest; meter = meter; padding = padding }

abbrev pub ticked : Step Toy ℕ → Metered → Step Metered ℕ
ticked dry m = dry
ticked (one x t) m = one x (record { toy = t; meter = m.meter + 1; padding = m.padding })

abbrev pub clocks : Machine
clocks = record {
  State = Metered;
  Frame = ℕ;
  Sample = ℕ;
  idle = λ m. toys.idle m.toy;
  fperiod = λ m. toys.fperiod m.toy;
  left = λ m. toys.left m.toy;
  refusal = λ f m. toys.refusal f m.toy;
  given = λ f m. record { toy = toys.given f m.toy; meter = m.meter; padding = m.padding };
  step = λ m. ticked (toys.step m.toy) m;
}

-- Three numbers are saved where there is room for them, and three are restored.
abbrev pub written : ℕ → Metered → List ℕ
written zero m = m.toy.at ∷ m.toy.rest ∷ m.meter ∷ []
written (suc n) m = []

abbrev pub read_back : List ℕ → Metered → Answer Metered ℕ
read_back (at ∷ rest ∷ meter ∷ []) m = answer done [] (metered at rest meter 0)
read_back (at ∷ rest ∷ meter ∷ x ∷ xs) m = answer records_wrong [] m
read_back (at ∷ rest ∷ []) m = answer records_wrong [] m
read_back (at ∷ []) m = answer records_wrong [] m
read_back [] m = answer records_wrong [] m

abbrev pub save_refusal : ℕ → Metered → ℕ
save_refusal room m = first_of (toys.idle m.toy ⇒ voice_idle ∷ ltb room 3 ⇒ records_longer ∷ [])

-- It is opened at a number below 99, and a frame that is handed in is below 99 too.
abbrev pub calls : Calls clocks
calls = record {
  Configuration = ℕ;
  Bytes = List ℕ;
  opened = λ c. answer (first_of (ltb 98 c ⇒ limit_broken ∷ [])) [] (metered c 0 0 0);
  saved = λ room m. record { number = save_refusal room m; bytes = written (save_refusal room m) m };
  restored = read_back;
  meter = λ m. m.meter;
  openable = λ c. Unit {0};
  givable = λ f. f < 99;
}

-- ---- A HISTORY with every call in it: two frames, the first of them cut, saved and resumed in an idle voice

abbrev pub idle_one : Metered
idle_one = metered 99 1 5 8

abbrev pub story : List (Call calls)
story =
    draw 5
    ∷ give 7
    ∷ give 9
    ∷ draw 0
    ∷ draw 1
    ∷ save 2
    ∷ save 3
    ∷ resume 3 idle_one
    ∷ restore (1 ∷ [])
    ∷ resume 2 idle_one
    ∷ draw 9
    ∷ whole_frame 9 1
    ∷ whole_frame 13 2
    ∷ whole_frame 9 4
    ∷ []

-- the numbers answered
unfoldable pub numbers : Answers calls → List (Call calls) → Metered → List ℕ
numbers answers [] m = []
numbers answers (c ∷ h) m = (answers c m).number ∷ numbers answers h (answers c m).state

pub story_numbers : numbers (answered calls) story (metered 0 0 0 0) ≡ 10 ∷ 0 ∷ 3 ∷ 0 ∷ 0 ∷ 12 ∷ 0 ∷ 0 ∷ 13 ∷ 12 ∷ 0 ∷ 14 ∷ 5 ∷ 0 ∷ []
unfolding numbers answered gave drew whole steps
story_numbers = refl

pub story_told : told calls (answered calls) story (metered 0 0 0 0) ≡ record { frames = 7 ∷ 9 ∷ []; made = 7 ∷ 6 ∷ 9 ∷ 8 ∷ []; state = metered 7 0 4 0 }
unfolding told answered gave drew whole steps
story_told = refl

-- its frames, uncut: the same samples and the same state
pub story_uncut : uncut clocks (7 ∷ 9 ∷ []) (metered 0 0 0 0) ≡ answer 0 (7 ∷ 6 ∷ 9 ∷ 8 ∷ []) (metered 7 0 4 0)
unfolding uncut framed gave steps
story_uncut = refl

-- ---- AN OLDER SAVE: what was made after it, and what is made again, otherwise cut, once it is restored

pub went_on : told calls (answered calls) (draw 1 ∷ give 9 ∷ draw 1 ∷ draw 1 ∷ []) (metered 6 1 1 0) ≡ record { frames = 9 ∷ []; made = 6 ∷ 9 ∷ 8 ∷ []; state = metered 7 0 4 0 }
unfolding told answered gave drew steps
went_on = refl

pub went_again : told calls (answered calls) (draw 9 ∷ whole_frame 9 2 ∷ []) (read_back (written 0 (metered 6 1 1 0)) idle_one).state
    ≡ record { frames = 9 ∷ []; made = 6 ∷ 9 ∷ 8 ∷ []; state = metered 7 0 4 0 }
unfolding told answered gave drew whole steps
went_again = refl
