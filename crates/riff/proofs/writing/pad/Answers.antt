-- `pad`: by its test. Assumes nothing.
use mathlib.Core.Path.{refl, ◌∙◌}
use Prim.Native.Nat.{◌*◌, ◌%◌, ◌≤◌}
use native.Mathlib.Omega.{arith}
use lib.ListN.{length}
use Rattle.std.specs.Prelude.{Ok}
use Rattle.riff.specs.declared.refusal.Refusal.TheVariants.{RoomShort}
use Rattle.riff.proofs.WritingLaws.{parity, short, enough, writes_nothing, writes_all, length_zeros, pad_stored}
use Rattle.riff.proofs.writing.pad.Goals as goal

pub returns-then-out-sound : goal.returns-then-out-sound
returns-then-out-sound c =
    writes_nothing _ _ _ RoomShort (rw (← parity c.args.width c.args.n, ← c.bytes_in.ensures.0) (short (Ok tt) (length c.args.out.now) (c.bytes_in.result * (c.args.n % 2) % 2) 0 refl (omega arith))) _ c.from.ensures

pub returns : goal.returns
returns c =
    let same = parity c.args.width c.args.n in
    let bytes = c.bytes_in.result * (c.args.n % 2) % 2 in
    let room : bytes ≤ length c.args.out.now = omega arith in
    writes_all _ _ c.args.out.now bytes 0 _ (rw (← same, ← c.bytes_in.ensures.0) (enough (Ok tt) (length c.args.out.now) bytes 0 refl room)) (length_zeros _ ∙ rw (c.bytes_in.ensures.0, same) refl) room (c.put_pad.ensures ∙ rw c.bytes_in.ensures.0 (pad_stored c.args.width c.args.n c.args.out.now))
