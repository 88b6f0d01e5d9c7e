-- `header`: by its tests. Assumes nothing.
use Rattle.std.proofs.Common.{refl, ◌+◌, ◌*◌, ◌^◌, ◌<◌, ◌≤◌, length, arith}
use Rattle.riff.specs.declared.refusal.Refusal.TheVariants.{RoomShort}
use Rattle.riff.specs.Writing.{padded}
use Rattle.riff.proofs.WritingLaws.{size_says, product_fits, by_refusal, short, enough, writes_nothing, writes_all, length_header}
use Rattle.riff.proofs.writing.header.Goals as goal
use Rattle.riff.proofs.writing.header.Goals.{After-bytes_in, In_default}

-- where it is not refused, the size fits its field, and the rate is within its limit
small : (c : After-bytes_in) → (36 + padded (c.bytes_in.result * c.args.n) < 2 ^ 32) × (c.args.rate ≤ 192000)
small c = rw c.bytes_in.ensures.0 (size_says c.args.width c.args.rate c.args.n c.in_default.ensures)

pub returns-in-Err : goal.returns-in-Err
returns-in-Err c = writes_nothing _ _ _ c.in-Err.refusal (by_refusal _ _ _ _ c.in-Err.refusal c.in-Err.ensures) _ c.from.ensures

pub returns-then-out-lt44 : goal.returns-then-out-lt44
returns-then-out-lt44 c = writes_nothing _ _ _ RoomShort (short _ (length c.args.out.now) 44 0 c.in_default.ensures (omega arith)) _ c.from-then-out-lt44.ensures

pub overflow_mul-sound : goal.overflow_mul-sound
overflow_mul-sound c = record { fits = product_fits c.args.width c.args.rate c.args.n c.in_default.ensures _ c.bytes_in.ensures.0 }

pub overflow_cast-rate : goal.overflow_cast-rate
overflow_cast-rate c = omega (arith, (small (goal.at.overflow_cast-rate c).After-bytes_in).1)

pub overflow_cast-sound : goal.overflow_cast-sound
overflow_cast-sound c = omega (arith, (small (goal.at.overflow_cast-sound c).After-bytes_in).0)

pub put_header-requires : goal.put_header-requires
put_header-requires c =
    let s = small (goal.at.put_header-requires c).After-bytes_in in
    (omega arith, rw c.bytes_in.ensures.0 refl, s.0, s.1)

pub returns : goal.returns
returns c =
    writes_all _ _ c.args.out.now 44 0 _ (enough _ (length c.args.out.now) 44 0 c.in_default.ensures (omega arith)) (length_header c.args.width c.args.rate c.args.n) (omega arith) c.put_header.ensures
