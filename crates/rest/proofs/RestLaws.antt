-- Save and restore, one law for each way out. Assumes nothing.
use mathlib.Core.Path.{◌≡◌, refl, sym, ◌∙◌, ap}
use mathlib.Core.Bool.{Bool, true, false, ◌&&◌}
use mathlib.Core.List.{List, ◌++◌}
use Prim.Native.Nat.{ℕ, ◌+◌, ◌*◌, ◌%◌, ◌≤◌, ◌<◌}
use native.Mathlib.Omega.{arith}
use lib.Dec.{eqb}
use lib.ListN.{length, take, drop, replicate}
use lib.Seq.{sets, sets-eq, length-take-le}
use borrow.Author.Tests.{lt-ltb, le-ltb, eq-eqb, eqb-true}
use Rattle.number.specs.Lists.{over}
use Rattle.number.proofs.Lists.{sets_all}
use Rattle.number.proofs.Floats.{both_first, both_second}
use Rattle.configuration.specs.Limits.{limits_kept}
use Rattle.voice.specs.declared.Voice.{Voice}
use Rattle.voice.specs.declared.Answered.{Answered}
use Rattle.voice.specs.Voice.{acceptable, idle}
use Rattle.voice.proofs.IdleLaws.{kept_of}
use Rattle.records.specs.Records.{encoded, numbered, values_in, in_order}
use Rattle.records.proofs.RecordLaws.{length_values}
use Rattle.records.proofs.TripLaws.{length_encoded}
use Rattle.slots.specs.Slots.{values_of, count_of, configuration_in, voice_in}
use Rattle.slots.specs.Sound.{sound}
use Rattle.slots.proofs.CountLaws.{Long, length_values_of, count_least, count_most}
use Rattle.reading.proofs.SoundLaws.{sound_of}
use Rattle.rest.specs.Rest.{records_of, save_number, Saves, record_count, slots_in, accepted, restored, Restores}

-- ---- save

pub length_records : (v : Voice) → Long v → limits_kept v.configuration ≡ true → length (records_of v) ≡ 16 * count_of v.configuration
unfolding records_of
length_records v long kept = length_encoded 0 (values_of v) ∙ ap (λ (n : ℕ). 16 * n) (length_values_of v long kept)

-- what encode leaves of the slots that gather stored
pub records_written : (v : Voice) (slots out : List ℕ) → Long v → limits_kept v.configuration ≡ true → length slots ≡ count_of v.configuration → 16 * length slots ≤ length out
    → sets out 0 (encoded (numbered 0 (sets slots 0 (values_of v)))) ≡ over (records_of v) (16 * length slots) out
unfolding records_of
records_written v slots out long kept count room =
    let all : sets slots 0 (values_of v) ≡ values_of v = sets_all slots (values_of v) (count ∙ sym (length_values_of v long kept)) in
    let size : length (records_of v) ≡ 16 * length slots = length_records v long kept ∙ ap (λ (n : ℕ). 16 * n) (sym count) in
    let past : 0 + length (records_of v) ≡ 16 * length slots = omega (arith, size) in
    ap (λ (vs : List ℕ). sets out 0 (encoded (numbered 0 vs))) all ∙ sets-eq (records_of v) out 0 (omega (arith, size)) ∙ ap (λ (n : ℕ). take 0 out ++ records_of v ++ drop n out) past

module _ (v : Voice) (out : List ℕ) where
  abbrev usable : Bool
  usable = acceptable v.configuration v.meter v.left v.first v.random.used

  abbrev size : ℕ
  size = 16 * count_of v.configuration

  idle_number : usable ≡ false → save_number (length out) v ≡ 2
  unfolding save_number idle
  idle_number e = rw e refl

  longer_number : usable ≡ true → length out < size → save_number (length out) v ≡ 12
  unfolding save_number idle
  longer_number e h = rw (e, lt-ltb (length out) size h) refl

  done_number : usable ≡ true → size ≤ length out → save_number (length out) v ≡ 0
  unfolding save_number idle
  done_number e h = rw (e, le-ltb (length out) size h) refl

  pub saves_idle : usable ≡ false → Saves v out (record { number = 2; bytes = 0 }) out
  saves_idle e = let n = idle_number e in record { number = sym n; bytes = rw n refl; buffer = rw n refl }

  pub saves_longer : usable ≡ true → length out < size → Saves v out (record { number = 12; bytes = 0 }) out
  saves_longer e h = let n = longer_number e h in record { number = sym n; bytes = rw n refl; buffer = rw n refl }

  -- n slots, in a part of k
  pub saves_done : (n k : ℕ) (after : List ℕ) → n ≡ count_of v.configuration → k ≡ n → Long v → usable ≡ true → 16 * n ≤ length out
      → after ≡ over (records_of v) (16 * k) out → Saves v out (record { number = 0; bytes = 16 * n }) after
  saves_done n k after count same long e h w =
      let number = done_number e (omega (arith, count, h)) in
      let l = length_records v long (kept_of v.configuration v.meter v.left v.first v.random.used e) in
      let written : 16 * n ≡ length (records_of v) = omega (arith, count, l) in
      record { number = sym number; bytes = rw number written; buffer = rw number (w ∙ ap (λ (m : ℕ). over (records_of v) (16 * m) out) same) }

-- the part of the array of slots that is lent
abbrev pub slot_array : List ℕ
slot_array = replicate 917 0

pub lent_slots : (n : ℕ) → n ≤ 917 → length (take n slot_array) ≡ n
lent_slots n h = length-take-le n slot_array h

-- ---- restore

module _ (bytes : List ℕ) where
  -- what acceptable records are
  pub record Accepts : Type 0 where
    pub whole : length bytes ≡ 16 * record_count bytes
    pub order : in_order 0 (record_count bytes) bytes ≡ true
    pub sound_slots : sound (slots_in bytes) ≡ true
    pub least : 85 ≤ record_count bytes
    pub most : record_count bytes ≤ 917

  abbrev inside : Bool
  inside = in_order 0 (record_count bytes) bytes && sound (slots_in bytes)

  pub accepts_of : accepted bytes ≡ true → Accepts
  unfolding accepted
  accepts_of e =
      let none : length bytes % 16 ≡ 0 = eqb-true (length bytes % 16) 0 (both_first (eqb (length bytes % 16) 0) inside e) in
      let two = both_second (eqb (length bytes % 16) 0) inside e in
      let good = both_second (in_order 0 (record_count bytes) bytes) (sound (slots_in bytes)) two in
      let all = sound_of (slots_in bytes) good in
      let count : record_count bytes ≡ count_of (configuration_in (slots_in bytes)) = sym (length_values (record_count bytes) bytes) ∙ all.count in
      record {
        whole = omega (arith, none);
        order = both_first (in_order 0 (record_count bytes) bytes) (sound (slots_in bytes)) two;
        sound_slots = good;
        least = omega (arith, count, count_least (configuration_in (slots_in bytes)) all.limits);
        most = omega (arith, count, count_most (configuration_in (slots_in bytes)) all.limits);
      }

  pub accepted_where : length bytes % 16 ≡ 0 → inside ≡ accepted bytes
  unfolding accepted
  accepted_where e = rw (eq-eqb (length bytes % 16) 0 e) refl

  -- by the tests of the slots that were read
  module _ (n : ℕ) (size : length bytes ≡ 16 * n) where
    count_read : record_count bytes ≡ n
    count_read = omega (arith, size)

    pub slots_read : (slots : List ℕ) → slots ≡ values_in n bytes → slots ≡ slots_in bytes
    slots_read slots e = e ∙ ap (λ (k : ℕ). values_in k bytes) (sym count_read)

    pub read_tests : (ordered good : Bool) (slots : List ℕ) → ordered ≡ in_order 0 n bytes → slots ≡ values_in n bytes → good ≡ sound slots → (ordered && good) ≡ accepted bytes
    read_tests ordered good slots o e s =
        let none : length bytes % 16 ≡ 0 = omega (arith, size) in
        let here : ordered ≡ in_order 0 (record_count bytes) bytes = o ∙ ap (λ (k : ℕ). in_order 0 k bytes) (sym count_read) in
        let there : good ≡ sound (slots_in bytes) = s ∙ ap sound (slots_read slots e) in
        ap (λ (b : Bool). b && good) here ∙ ap (λ (b : Bool). in_order 0 (record_count bytes) bytes && b) there ∙ accepted_where none

  -- never true is false
  pub refused_where : (accepted bytes ≡ true → ⊥) → accepted bytes ≡ false
  refused_where never = go (accepted bytes) refl
    where
      go : (b : Bool) → accepted bytes ≡ b → accepted bytes ≡ false
      go true e = absurd (never e)
      go false e = e

  -- the tests of the size
  pub part_refused : (length bytes % 16 ≡ 0 → ⊥) → accepted bytes ≡ false
  part_refused never = refused_where (λ (e : accepted bytes ≡ true). let a = accepts_of e in let none : length bytes % 16 ≡ 0 = omega (arith, a.whole) in never none)

  pub few_refused : record_count bytes < 12 → accepted bytes ≡ false
  few_refused h = refused_where (λ (e : accepted bytes ≡ true). omega (arith, h, (accepts_of e).least))

  pub many_refused : 917 < record_count bytes → accepted bytes ≡ false
  many_refused h = refused_where (λ (e : accepted bytes ≡ true). omega (arith, h, (accepts_of e).most))

  module _ (v : Voice) where
    pub restores_refused : (r : Answered) → accepted bytes ≡ false → (r.number ≡ 13) × (r.voice ≡ v) → Restores bytes v r
    unfolding restored
    restores_refused r e same = record { number = rw e same.0; voice = rw e same.1 }

    pub restores_done : (w : Voice) → accepted bytes ≡ true → w ≡ voice_in (slots_in bytes) → Restores bytes v (record { number = 0; voice = w })
    unfolding restored
    restores_done w e same = record { number = rw e refl; voice = rw e same }
