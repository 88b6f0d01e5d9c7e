-- ROUND TRIPS: restore of what save wrote is the voice, and save of what restore accepted is the same bytes. Assumes nothing.
use mathlib.Core.Path.{◌≡◌, refl, sym, ◌∙◌, ap}
use mathlib.Core.Bool.{true, false}
use mathlib.Core.List.{List, []}
use Prim.Native.Nat.{ℕ, ◌+◌, ◌*◌, ◌%◌, ◌^◌, ◌≤◌}
use native.Mathlib.Omega.{arith}
use lib.ListN.{length}
use borrow.Author.Tests.{eq-eqb, not-false}
use Rattle.number.specs.Bytes.{Bytes}
use Rattle.history.specs.Machine.{answer}
use Rattle.configuration.specs.Limits.{limits_kept}
use Rattle.voice.specs.declared.Voice.{Voice}
use Rattle.voice.specs.Voice.{acceptable, idle}
use Rattle.voice.proofs.IdleLaws.{kept_of}
use Rattle.held.specs.Held.{Held}
use Rattle.records.specs.Records.{encoded, numbered, values_in, in_order}
use Rattle.records.proofs.TripLaws.{values_encoded, order_encoded, encoded_values, values_below}
use Rattle.slots.specs.Slots.{values_of, voice_in}
use Rattle.slots.specs.Sound.{sound}
use Rattle.trips.specs.Clean.{Clean}
use Rattle.slots.proofs.CountLaws.{Long, length_values_of, count_most}
use Rattle.trips.proofs.BackLaws.{voice_back, sound_back}
use Rattle.trips.proofs.AgainLaws.{values_again}
use Rattle.rest.specs.Rest.{records_of, record_count, slots_in, accepted, restored}
use Rattle.rest.proofs.RestLaws.{length_records, accepts_of}
use Rattle.stream.proofs.NextLaws.{Below}
use Rattle.stream.proofs.WordLaws.{same_of, values_words}

-- A voice that can be saved and comes back: not idle, whole arrays, clean padding, f64 throughout, `next` of 64 bits. Every voice from the calls is such.
pub record Good (v : Voice) : Type 0 where
  pub usable : idle v ≡ false
  pub long : Long v
  pub clean : Clean v
  pub held : Held v
  pub next : Below v.random.next

module _ (v : Voice) (g : Good v) where
  pub can : acceptable v.configuration v.meter v.left v.first v.random.used ≡ true
  unfolding idle
  can = not-false _ g.usable

  pub limits : limits_kept v.configuration ≡ true
  limits = kept_of v.configuration v.meter v.left v.first v.random.used can

  abbrev n : ℕ
  n = length (values_of v)

  size : length (records_of v) ≡ 16 * n
  size = length_records v g.long limits ∙ ap (λ (k : ℕ). 16 * k) (sym (length_values_of v g.long limits))

  count : record_count (records_of v) ≡ n
  count = omega (arith, size)

  order : in_order 0 n (records_of v) ≡ true
  unfolding records_of
  order =
      let most = count_most v.configuration limits in
      let few : 0 + n ≤ 2 ^ 64 = omega (arith, most, length_values_of v g.long limits) in
      order_encoded 0 (values_of v) few

  values : values_in n (records_of v) ≡ values_of v
  unfolding records_of
  values = values_encoded 0 (values_of v) (values_words v g.held can g.next)

  slots : slots_in (records_of v) ≡ values_of v
  slots = ap (λ (k : ℕ). values_in k (records_of v)) count ∙ values

  pub saved_accepted : accepted (records_of v) ≡ true
  unfolding accepted
  saved_accepted =
      let whole : length (records_of v) % 16 ≡ 0 = omega (arith, size) in
      let ordered : in_order 0 (record_count (records_of v)) (records_of v) ≡ true = ap (λ (k : ℕ). in_order 0 k (records_of v)) count ∙ order in
      let good : sound (slots_in (records_of v)) ≡ true = ap sound slots ∙ sound_back v g.long (same_of v g.held) can in
      rw (eq-eqb (length (records_of v) % 16) 0 whole, ordered, good) refl

  -- RESTORE OF WHAT SAVE WROTE, into any voice
  pub restore_saved : (into : Voice) → restored (records_of v) into ≡ answer 0 [] v
  unfolding restored
  restore_saved into =
      rw saved_accepted (ap (λ (w : Voice). answer 0 [] w) (ap voice_in slots ∙ voice_back v g.long limits g.clean (same_of v g.held)))

-- SAVE OF WHAT RESTORE ACCEPTED
pub save_restored : (bytes : List ℕ) → Bytes bytes → accepted bytes ≡ true → records_of (voice_in (slots_in bytes)) ≡ bytes
unfolding records_of
save_restored bytes are e =
    let a = accepts_of bytes e in
    ap (λ (vs : List ℕ). encoded (numbered 0 vs)) (values_again (slots_in bytes) (values_below (record_count bytes) bytes are) a.sound_slots)
    ∙ encoded_values (record_count bytes) 0 bytes are a.whole a.order
