-- `part`: by its test. Assumes nothing.
use mathlib.Core.Path.{refl}
use Prim.Native.Nat.{◌*◌, ◌≤◌}
use native.Mathlib.Omega.{arith}
use lib.ListN.{length}
use Rattle.pcm.proofs.SamplesLaws.{length_bytes_of}
use Rattle.std.specs.Prelude.{Ok}
use Rattle.riff.specs.declared.refusal.Refusal.TheVariants.{RoomShort}
use Rattle.riff.proofs.WritingLaws.{short, enough, writes_nothing, writes_all}
use Rattle.riff.proofs.writing.part.Goals as goal

pub returns-then-out-bytes : goal.returns-then-out-bytes
returns-then-out-bytes c =
    writes_nothing _ _ _ RoomShort (rw (← c.bytes_in.ensures.0) (short (Ok tt) (length c.args.out.now) (c.bytes_in.result * length c.args.samples.now) _ refl (omega arith))) _ c.from.ensures

pub returns : goal.returns
returns c =
    let bytes = c.bytes_in.result * length c.args.samples.now in
    let room : bytes ≤ length c.args.out.now = omega arith in
    writes_all _ _ c.args.out.now bytes c.put_samples-held.result _ (rw (← c.bytes_in.ensures.0, ← c.put_samples-held.ensures.held) (enough (Ok tt) (length c.args.out.now) bytes c.put_samples-held.result refl room)) (rw c.bytes_in.ensures.0 (length_bytes_of _ _ c.args.samples.now)) room c.put_samples-held.ensures.bytes
