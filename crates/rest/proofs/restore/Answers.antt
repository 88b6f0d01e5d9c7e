-- `restore` meets its contract: the voice in the slots that were read, or the one that was handed in. Assumes nothing.
use mathlib.Core.Path.{◌≡◌, sym, ◌∙◌, ap}
use mathlib.Core.Bool.{true}
use lib.ListN.{length}
use Rattle.std.proofs.lemmas.List.{take_at}
use Rattle.slots.specs.Slots.{voice_in}
use Rattle.slots.specs.Sound.{sound}
use Rattle.rest.specs.Rest.{accepted}
use Rattle.rest.proofs.RestLaws.{lent_slots, accepts_of, restores_refused, restores_done}
use Rattle.rest.proofs.restore.Goals as goal
use Rattle.rest.proofs.restore.Goals.{Else-not-read_records}

pub returns-in_default : goal.returns-in_default
returns-in_default c = restores_refused c.args.bytes.now c.args.voice _ c.in_default.ensures c.refused.ensures

pub returns-then-not-read_records : goal.returns-then-not-read_records
returns-then-not-read_records c = restores_refused c.args.bytes.now c.args.voice _ (sym c.read_records.ensures.value ∙ c.if-not-read_records.true) c.refused-then-not-read_records.ensures

acceptable : (c : Else-not-read_records) → accepted c.args.bytes.now ≡ true
acceptable c = sym c.read_records.ensures.value ∙ c.if-not-read_records.false

all : (c : Else-not-read_records) → length c.read_records.new.slots ≡ c.in-Some.count
all c = c.read_records.auto.slots ∙ lent_slots c.in-Some.count c.in-Some.ensures.2

pub voice_in-requires : goal.voice_in-requires
voice_in-requires c =
    let here = (goal.at.voice_in-requires c).Else-not-read_records in
    ap sound (take_at c.read_records.new.slots _ c.in-Some.count (all here) ∙ c.read_records.ensures.slots_after) ∙ (accepts_of c.args.bytes.now (acceptable here)).sound_slots

pub returns : goal.returns
returns c =
    let here = (goal.at.returns c).Else-not-read_records in
    restores_done c.args.bytes.now c.args.voice _ (acceptable here) (c.voice_in.ensures ∙ ap voice_in (take_at c.read_records.new.slots _ c.in-Some.count (all here) ∙ c.read_records.ensures.slots_after))
