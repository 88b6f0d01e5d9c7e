-- Save and restore. Assumes nothing.
use Rattle.std.specs.Prelude.{◌≡◌, Bool, false, ◌&&◌, cond, List, [], ◌∷◌, ℕ, zero, suc, ◌*◌, ◌/◌, ◌%◌, ◌≤◌, eqb, ltb, Float, length, Result, Ok, Err, Option, Some, None}
use Rattle.number.specs.Lists.{over}
use Rattle.history.specs.Numbers.{done, voice_idle, records_longer, records_wrong}
use Rattle.history.specs.Machine.{◌⇒◌, first_of, Answer, answer}
use Rattle.history.specs.History as history
use Rattle.voice.specs.declared.Voice.{Voice}
use Rattle.voice.specs.declared.Answered.{Answered}
use Rattle.voice.specs.declared.answers.Refusal.{Refusal}
use Rattle.voice.specs.Answers.{number_of}
use Rattle.voice.specs.Voice.{idle}
use Rattle.records.specs.Records.{encoded, values_in, in_order}
use Rattle.slots.specs.Slots.{slots_of, count_of, voice_in}
use Rattle.slots.specs.Sound.{sound}
use Rattle.rest.specs.declared.Saved.{Saved}

-- ---- SAVE

-- the bytes of a voice: its records, one after the other
unfoldable pub records_of : Voice → List ℕ
records_of v = encoded (slots_of v)

-- 2 for an idle voice, then 12 where the records are longer than the buffer
unfoldable pub save_number : (room : ℕ) → Voice → ℕ
save_number room v = first_of (idle v ⇒ voice_idle ∷ ltb room (16 * count_of v.configuration) ⇒ records_longer ∷ [])

abbrev pub written_by : (number : ℕ) → Voice → List ℕ
written_by zero v = records_of v
written_by (suc n) v = []

-- the number, and exactly these bytes; none where it is refused
abbrev pub saved : (room : ℕ) → Voice → history.Saved (List ℕ)
saved room v = record { number = save_number room v; bytes = written_by (save_number room v) v }

-- WHAT SAVE PROMISES of its answer, and of the buffer after it
pub record Saves (v : Voice) (out : List ℕ) (r : Saved) (after : List ℕ) : Type 0 where
  pub number : r.number ≡ (saved (length out) v).number
  pub bytes : r.bytes ≡ length (saved (length out) v).bytes
  pub buffer : after ≡ over (saved (length out) v).bytes r.bytes out

-- what it answers for so many bytes that were written, or for a refusal
abbrev pub saved_by : Result ℕ Refusal → Saved
saved_by (Ok bytes) = record { number = done; bytes = bytes }
saved_by (Err refusal) = record { number = number_of refusal; bytes = 0 }

-- ---- RESTORE

-- how many records, and their values
abbrev pub record_count : List ℕ → ℕ
record_count bytes = length bytes / 16

abbrev pub slots_in : List ℕ → List ℕ
slots_in bytes = values_in (record_count bytes) bytes

-- whole records, in order, of sound slots
unfoldable pub accepted : List ℕ → Bool
accepted bytes = eqb (length bytes % 16) 0 && (in_order 0 (record_count bytes) bytes && sound (slots_in bytes))

-- the voice in the records, or 13 and the voice that was handed in
unfoldable pub restored : List ℕ → Voice → Answer Voice Float
restored bytes v = cond (accepted bytes) (answer done [] (voice_in (slots_in bytes))) (answer records_wrong [] v)

-- WHAT RESTORE PROMISES of its answer
pub record Restores (bytes : List ℕ) (v : Voice) (r : Answered) : Type 0 where
  pub number : r.number ≡ (restored bytes v).number
  pub voice : r.voice ≡ (restored bytes v).state

-- WHAT THE SIZE of the bytes says: how many records there are, none where so many are not acceptable
abbrev pub Sized : List ℕ → Option ℕ → Type 0
Sized bytes (Some n) = (length bytes ≡ 16 * n) × (12 ≤ n) × (n ≤ 917)
Sized bytes None = accepted bytes ≡ false
