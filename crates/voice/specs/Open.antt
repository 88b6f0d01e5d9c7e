-- Open. Assumes nothing.
use Rattle.std.specs.Prelude.{◌≡◌, cond, ℕ}
use Rattle.history.specs.Numbers.{done, limit_broken}
use Rattle.configuration.specs.declared.Configuration.{Configuration}
use Rattle.configuration.specs.Limits.{limits_kept}
use Rattle.voice.specs.declared.Voice.{Voice}
use Rattle.voice.specs.declared.Answered.{Answered}
use Rattle.voice.specs.Voice.{fresh_voice, idle_voice}

-- 0 and a fresh voice exactly where every limit holds, else 1 and the idle one
abbrev pub open_number : Configuration → ℕ
open_number c = cond (limits_kept c) done limit_broken

abbrev pub opened_voice : Configuration → Voice
opened_voice c = cond (limits_kept c) (fresh_voice c) idle_voice

-- WHAT OPEN PROMISES of its answer
pub record Opens (c : Configuration) (r : Answered) : Type 0 where
  pub number : r.number ≡ open_number c
  pub voice : r.voice ≡ opened_voice c
