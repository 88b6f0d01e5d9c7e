-- What is left to do of a stretch once its excitation is made and counted: the filter, and the frame's end where no sample is left. Assumes nothing.
use Rattle.std.specs.Prelude.{cond, List, eqb, take, Float}
use Rattle.history.specs.Through.{Passage, passage}
use Rattle.pulse.specs.declared.Pulse.{Pulse}
use Rattle.pulse.specs.Train.{end_of}
use Rattle.voice.specs.declared.Voice.{Voice}
use Rattle.voice.specs.Voice.{in_front}
use Rattle.drawing.specs.declared.sound.Remains.{Remains}
use Rattle.drawing.specs.Step.{moved, closed_at_end, filtered}

-- the pulse train and the coefficients of a voice whose counts are made
abbrev pub pulse_at_end : Voice → Pulse
pulse_at_end v = cond (eqb v.left 0) (end_of v.pulse) v.pulse

abbrev pub entries_at_end : Voice → List Float → List Float
entries_at_end v c = cond (eqb v.left 0) (take v.configuration.nmcp v.targets) c

-- the voice with the coefficients c, and with what the filter and the frame's end leave besides
abbrev pub with_remains : List Float → Remains → Voice → Voice
with_remains c r v = moved v v.meter v.left r.pulse v.random v.line (in_front c v.coefficients) r.zero r.nonzero

-- samples of the excitation through the voice's filter, and the frame's end
unfoldable pub ended : Voice → List Float → Passage Voice Float
ended v xs = let p = filtered v xs in passage p.made (closed_at_end p.state)
