-- The voice's calls as a history has them, and demand 3 of the voice. Nothing is proved here. Assumes nothing.
use Rattle.std.specs.Prelude.{List, [], ℕ}
use Rattle.history.specs.Machine.{answer}
use Rattle.history.specs.History.{Calls, Demand3, answered}
use Rattle.history.specs.Older.{Older}
use Rattle.noise.specs.Draw.{tries}
use Rattle.configuration.specs.declared.Configuration.{Configuration}
use Rattle.voice.specs.Open.{open_number, opened_voice}
use Rattle.drawing.specs.Draw.{voice_of}
use Rattle.held.specs.Held.{HeldConfiguration, HeldFrame}
use Rattle.rest.specs.Rest.{saved, restored}

-- open, save and restore as they are defined; a configuration and a frame can be handed in where their floats are f64
abbrev pub voice_calls : (bound : ℕ) → Calls (voice_of bound)
voice_calls bound = record {
  Configuration = Configuration;
  Bytes = List ℕ;
  opened = λ c. answer (open_number c) [] (opened_voice c);
  saved = saved;
  restored = restored;
  meter = λ v. v.meter;
  openable = HeldConfiguration;
  givable = HeldFrame;
}

-- DEMAND 3 of the voice, and the law of older saves
abbrev pub VoiceDemand3 : Type 0
VoiceDemand3 = Demand3 (voice_calls tries) (answered (voice_calls tries))

abbrev pub VoiceOlder : Type 0
VoiceOlder = Older (voice_calls tries) (answered (voice_calls tries))
