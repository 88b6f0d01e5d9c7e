-- `draw` meets its contract. Assumes nothing.
use mathlib.Core.Path.{◌≡◌, sym, ap, ◌∙◌}
use Prim.Native.Nat.{◌+◌, ◌≤◌}
use native.Mathlib.Omega.{arith}
use lib.ListN.{length, length-append, length-drop}
use Rattle.number.specs.Lists.{row}
use Rattle.voice.proofs.IdleLaws.{kept_of, total_of}
use Rattle.drawing.proofs.DrawLaws.{lent_part, draws_on, draws_refused, draws_empty, draws_sounded}
use Rattle.drawing.proofs.draw.Goals as goal

pub returns-in-Err : goal.returns-in-Err
returns-in-Err c = rw (c.nothing.ensures, c.number.ensures) (draws_refused c.args.voice c.args.out.now c.args.start c.in-Err.refusal c.in-Err.ensures)

pub returns-then-room-eq0 : goal.returns-then-room-eq0
returns-then-room-eq0 c = rw c.nothing-then-room-eq0.ensures (draws_empty c.args.voice c.args.out.now c.args.start (sym c.in_default.ensures) (sym c.saturating_sub-room.ensures ∙ c.if-room-eq0.true))

pub sound-sounded-requires : goal.sound-sounded-requires
sound-sounded-requires c =
    let on = draws_on c.args.voice (sym c.in_default.ensures) in
    let within : c.args.start + c.min-count.result ≤ length c.args.out.now = omega arith in
    let long = lent_part c.args.start c.min-count.result c.args.out.now within in
    (kept_of _ _ _ _ _ on.usable, omega (arith, long), total_of _ _ _ _ _ on.usable, on.some)

pub returns : goal.returns
returns c =
    let within : c.args.start + c.min-count.result ≤ length c.args.out.now = omega arith in
    let long = lent_part c.args.start c.min-count.result c.args.out.now within in
    let kept : length c.sound-sounded.new.samples ≡ length (row c.args.start (c.args.start + c.min-count.result) c.args.out.now) = c.sound-sounded.auto.samples in
    let few : c.sound-sounded.result.made ≤ c.min-count.result = omega (arith, simp (length-append, length-drop) at (ap length c.sound-sounded.ensures.samples_after), c.sound-sounded.ensures.made_value, kept, long) in
    draws_sounded c.args.voice c.args.out.now c.args.start (sym c.in_default.ensures) c.min-count.result (rw c.saturating_sub-room.ensures at c.min-count.ensures) within _ _ _ (rw long at c.sound-sounded.ensures.voice_value) (rw long at c.sound-sounded.ensures.made_value) (rw long at c.sound-sounded.ensures.samples_after) few _ c.number_of.ensures
