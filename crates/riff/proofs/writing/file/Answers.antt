-- `file`: by its tests, and the three pieces one after the other. Assumes nothing.
use mathlib.Core.Path.{refl}
use Prim.Native.Nat.{◌+◌, ◌*◌, ◌^◌, ◌≤◌, ◌<◌}
use native.Mathlib.Omega.{arith}
use lib.ListN.{length}
use Rattle.riff.specs.declared.refusal.Refusal.TheVariants.{RoomShort}
use Rattle.riff.specs.Writing.{padded}
use Rattle.riff.proofs.WritingLaws.{size_says, by_refusal, short, enough, writes_nothing, writes_all, length_file, file_of_lem}
use Rattle.riff.proofs.writing.file.Goals as goal
use Rattle.riff.proofs.writing.file.Goals.{After-bytes_in}

-- where it is not refused, the size fits its field, and the rate is within its limit
small : (c : After-bytes_in) → (36 + padded (c.bytes_in.result * length c.args.samples.now) < 2 ^ 32) × (c.args.rate ≤ 192000)
small c = rw c.bytes_in.ensures.0 (size_says c.args.width c.args.rate (length c.args.samples.now) c.in_default.ensures)

pub returns-in-Err : goal.returns-in-Err
returns-in-Err c = writes_nothing _ _ _ c.in-Err.refusal (by_refusal _ _ _ _ c.in-Err.refusal c.in-Err.ensures) _ c.from.ensures

pub returns-then-out-bytes : goal.returns-then-out-bytes
returns-then-out-bytes c =
    writes_nothing _ _ _ RoomShort (rw (← c.bytes_in.ensures.0) (short _ (length c.args.out.now) (44 + padded (c.bytes_in.result * length c.args.samples.now)) _ c.in_default.ensures (omega arith))) _ c.from-then-out-bytes.ensures

pub overflow_cast-rate : goal.overflow_cast-rate
overflow_cast-rate c = omega (arith, (small (goal.at.overflow_cast-rate c).After-bytes_in).1)

pub overflow_cast-sound : goal.overflow_cast-sound
overflow_cast-sound c = omega (arith, (small (goal.at.overflow_cast-sound c).After-bytes_in).0)

pub put_header-requires : goal.put_header-requires
put_header-requires c =
    let s = small (goal.at.put_header-requires c).After-bytes_in in
    (omega arith, rw c.bytes_in.ensures.0 refl, s.0, s.1)

pub returns : goal.returns
returns c =
    let sound = c.bytes_in.result * length c.args.samples.now in
    let room : 44 + padded sound ≤ length c.args.out.now = omega arith in
    writes_all _ _ c.args.out.now (44 + padded sound) c.put_samples-held.result _
    (rw (← c.bytes_in.ensures.0, ← c.put_samples-held.ensures.held) (enough _ (length c.args.out.now) (44 + padded sound) c.put_samples-held.result c.in_default.ensures room))
    (rw c.bytes_in.ensures.0 (length_file c.args.width c.args.rate c.args.samples.now))
    room
    (file_of_lem c.args.width c.args.rate c.args.samples.now c.args.out.now _ _ _ sound (rw c.bytes_in.ensures.0 refl) c.put_header.ensures c.put_samples-held.ensures.bytes c.put_pad.ensures)
