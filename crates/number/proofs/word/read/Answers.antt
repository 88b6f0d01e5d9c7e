-- `read`: std's number of eight bytes is ours. Assumes nothing.
use Rattle.std.proofs.Common.{◌≡◌, ◌+◌, ◌-◌, take, drop, ◌∙◌, ap, arith}
use Rattle.number.specs.Bytes.{number_of, Bytes}
use Rattle.number.proofs.ByteLaws.{bytes_take, bytes_drop, number_of_le}
use Rattle.number.proofs.word.read.Goals as goal

pub returns : goal.returns
returns c =
    let part = take 8 (drop c.args.at c.args.s.now) in
    let eight : c.args.at + 8 - c.args.at ≡ 8 = omega arith in
    let same : c.copy_from_slice.new.self ≡ part = rw eight at c.copy_from_slice.ensures.after in
    let bytes : Bytes part = bytes_take 8 _ (bytes_drop c.args.at c.args.s.now (λ i. (c.type_inv.s i).fits)) in
    number_of_le c.copy_from_slice.new.self _ c.copy_from_slice.ensures.len (rw same bytes) c.from_le_bytes.type_inv c.from_le_bytes.ensures ∙ ap number_of same
