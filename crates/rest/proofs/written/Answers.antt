-- `written` meets its contract. Assumes nothing.
use mathlib.Core.Path.{◌≡◌, sym, ◌∙◌}
use Prim.Native.Nat.{◌*◌, ◌≤◌, ◌<◌}
use native.Mathlib.Omega.{arith}
use lib.ListN.{length, take}
use Rattle.voice.specs.Voice.{acceptable}
use mathlib.Core.Bool.{true}
use Rattle.configuration.specs.Limits.{limits_kept}
use Rattle.voice.proofs.IdleLaws.{kept_of}
use Rattle.slots.specs.Slots.{count_of}
use Rattle.slots.proofs.CountLaws.{held_long, count_most}
use Rattle.rest.proofs.RestLaws.{saves_idle, saves_longer, saves_done, slot_array, lent_slots}
use Rattle.rest.proofs.written.Goals as goal
use Rattle.rest.proofs.written.Goals.{After-count_of-count, Else-not-is_usable}

usable_here : (c : Else-not-is_usable) → acceptable c.args.voice.configuration c.args.voice.meter c.args.voice.left c.args.voice.first c.args.voice.random.used ≡ true
usable_here c = sym c.is_usable.ensures ∙ c.if-not-is_usable.false

kept : (c : Else-not-is_usable) → limits_kept c.args.voice.configuration ≡ true
kept c = kept_of _ _ _ _ _ (usable_here c)

few : (c : After-count_of-count) → c.count_of-count.result ≤ 917
few c = let most = count_most _ (kept_of _ _ _ _ _ (sym c.is_usable.ensures ∙ c.if-not-is_usable.false)) in omega (arith, most, c.count_of-count.ensures)

pub returns-then-not-is_usable : goal.returns-then-not-is_usable
returns-then-not-is_usable c = saves_idle c.args.voice c.args.out.now (sym c.is_usable.ensures ∙ c.if-not-is_usable.true)

pub count_of-count-requires : goal.count_of-count-requires
count_of-count-requires c = kept (goal.at.count_of-count-requires c).Else-not-is_usable

pub overflow_mul-count : goal.overflow_mul-count
overflow_mul-count c = let most = few c in record { fits = omega (arith, most) }

pub returns-then-out-count : goal.returns-then-out-count
returns-then-out-count c =
    let short : length c.args.out.now < 16 * count_of c.args.voice.configuration = omega (arith, c.count_of-count.ensures, c.if-out-count.true) in
    saves_longer c.args.voice c.args.out.now (usable_here (goal.at.returns-then-out-count c).Else-not-is_usable) short

pub slice_bounds-slots-end : goal.slice_bounds-slots-end
slice_bounds-slots-end c = let most = few (goal.at.slice_bounds-slots-end c).After-count_of-count in omega (arith, most)

pub slice_bounds-write_records-end : goal.slice_bounds-write_records-end
slice_bounds-write_records-end c = sym (lent_slots c.count_of-count.result (few (goal.at.slice_bounds-write_records-end c).After-count_of-count))

pub write_records-requires : goal.write_records-requires
write_records-requires c =
    let l = lent_slots c.count_of-count.result (few (goal.at.write_records-requires c).After-count_of-count) in
    let room : 16 * length (take c.count_of-count.result slot_array) ≤ length c.args.out.now = omega (arith, l, c.if-out-count.false) in
    (kept (goal.at.write_records-requires c).Else-not-is_usable, l ∙ c.count_of-count.ensures, room)

pub returns : goal.returns
returns c =
    let room : 16 * c.count_of-count.result ≤ length c.args.out.now = omega (arith, c.if-out-count.false) in
    saves_done c.args.voice c.args.out.now c.count_of-count.result _ _ c.count_of-count.ensures (lent_slots c.count_of-count.result (few (goal.at.returns c).After-count_of-count)) (held_long c.args.voice _ c.well_formed.0) (usable_here (goal.at.returns c).Else-not-is_usable) room c.write_records.ensures
