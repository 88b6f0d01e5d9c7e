-- `is_sound` meets its contract: test by test. Assumes nothing.
use mathlib.Core.Path.{◌≡◌, sym, ◌∙◌}
use native.Mathlib.Omega.{arith}
use lib.ListN.{length}
use borrow.Author.Tests.{eq-eqb, ne_eqb}
use Rattle.slots.specs.Slots.{count_of}
use Rattle.reading.proofs.SoundLaws.{Room, room_with, unsound_limits, unsound_count, sound_where}
use Rattle.reading.proofs.check.is_sound.Goals as goal
use Rattle.reading.proofs.check.is_sound.Goals.{Else-count_of-slots}

here : (c : Else-count_of-slots) → Room c.configuration_in-c.result (length c.args.slots.now)
here c =
    let this : count_of c.configuration_in-c.result ≡ length c.args.slots.now = omega (arith, c.count_of.ensures, c.if-count_of-slots.false) in
    room_with _ _ (sym c.kept.ensures ∙ c.if-not-kept.false) this

pub returns-then-not-kept : goal.returns-then-not-kept
returns-then-not-kept c = unsound_limits c.args.slots.now c.configuration_in-c.result c.configuration_in-c.ensures (sym c.kept.ensures ∙ c.if-not-kept.true)

pub returns-then-count_of-slots : goal.returns-then-count_of-slots
returns-then-count_of-slots c =
    let other : length c.args.slots.now ≡ count_of c.configuration_in-c.result → ⊥ = λ e. omega (arith, e, c.count_of.ensures, c.if-count_of-slots.true) in
    unsound_count c.args.slots.now c.configuration_in-c.result c.configuration_in-c.ensures (ne_eqb _ _ other)

pub bounds-slots-14 : goal.bounds-slots-14
bounds-slots-14 c = let f = here (goal.at.bounds-slots-14 c).Else-count_of-slots in omega (arith, f.room)

pub used_at-requires : goal.used_at-requires
used_at-requires c = (here (goal.at.used_at-requires c).Else-count_of-slots).nlpf

pub offset_bounds-slots-used_at : goal.offset_bounds-slots-used_at
offset_bounds-slots-used_at c =
    let f = here (goal.at.offset_bounds-slots-used_at c).Else-count_of-slots in
    record { fits = omega (arith, f.nlpf, c.used_at.ensures) }

pub bounds-slots-used_at : goal.bounds-slots-used_at
bounds-slots-used_at c = let f = here (goal.at.bounds-slots-used_at c).Else-count_of-slots in omega (arith, f.room, c.used_at.ensures)

pub bounds-slots-12 : goal.bounds-slots-12
bounds-slots-12 c = let f = here (goal.at.bounds-slots-12 c).Else-count_of-slots in omega (arith, f.room)

pub bounds-slots-13 : goal.bounds-slots-13
bounds-slots-13 c = let f = here (goal.at.bounds-slots-13 c).Else-count_of-slots in omega (arith, f.room)

pub bounds-slots-14-2 : goal.bounds-slots-14-2
bounds-slots-14-2 c = let f = here (goal.at.bounds-slots-14-2 c).Else-count_of-slots in omega (arith, f.room)

pub all_forms_kept-requires : goal.all_forms_kept-requires
all_forms_kept-requires c = let f = here (goal.at.all_forms_kept-requires c).Else-count_of-slots in (f.nlpf, omega (arith, f.room))

pub returns : goal.returns
returns c =
    let this : length c.args.slots.now ≡ count_of c.configuration_in-c.result = omega (arith, c.count_of.ensures, c.if-count_of-slots.false) in
    rw (c.usable.ensures, c.is_set.ensures, c.used_at.ensures, c.all_forms_kept.ensures) (sound_where c.args.slots.now c.configuration_in-c.result c.configuration_in-c.ensures (eq-eqb _ _ this))
