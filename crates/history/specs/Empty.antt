-- Empty versions of the toy with a meter: each answers as it should, but for one thing. Assumes nothing.
use Rattle.std.specs.Prelude.{◌≡◌, refl, [], ◌∷◌, map, ◌+◌}
use Rattle.history.specs.Steps.{steps}
use Rattle.history.specs.Machine.{answer, drew}
use Rattle.history.specs.History.{Calls, give, draw, whole_frame, save, restore, resume, Answers, answered}
use Rattle.history.specs.Histories.{metered, clocks, calls}

-- one fixed sample
unfoldable pub fixed : Answers calls
fixed c m = let a = answered calls c m in answer a.number (map (λ x. 7) a.made) a.state

pub two_fixed : fixed (draw 9) (metered 9 2 0 0) ≡ answer 0 (7 ∷ 7 ∷ []) (metered 7 0 2 0)
unfolding fixed answered drew steps
two_fixed = refl

-- the voice left untouched
unfoldable pub untouched : Answers calls
untouched c m = let a = answered calls c m in answer a.number a.made m

pub one_untouched : untouched (draw 1) (metered 9 2 0 0) ≡ answer 0 (9 ∷ []) (metered 9 2 0 0)
unfolding untouched answered drew steps
one_untouched = refl

-- all that is left made in the first draw; what is left and the meter pretend otherwise
unfoldable pub eager : Answers calls
eager (give f) m = answered calls (give f) m
eager (draw room) m =
    let a = answered calls (draw room) m in
    let all = answered calls (draw m.toy.rest) m in
    answer a.number a.made (metered all.state.toy.at a.state.toy.rest a.state.meter 0)
eager (whole_frame f room) m = answered calls (whole_frame f room) m
eager (save room) m = answered calls (save room) m
eager (restore b) m = answered calls (restore b) m
eager (resume room into) m = answered calls (resume room into) m

pub one_eager : eager (draw 1) (metered 9 2 0 0) ≡ answer 0 (9 ∷ []) (metered 7 1 1 0)
unfolding eager answered drew steps
one_eager = refl

-- an invented meter, which counts a frame's samples as soon as it is given
abbrev pub invented : Calls clocks
invented = record {
  Configuration = calls.Configuration;
  Bytes = calls.Bytes;
  opened = calls.opened;
  saved = calls.saved;
  restored = calls.restored;
  meter = λ m. m.meter + m.toy.rest;
  openable = calls.openable;
  givable = calls.givable;
}

-- one sample made, and it says 2
pub two_invented : invented.meter (metered 8 1 1 0) ≡ 2
two_invented = refl
