-- `put`: `Made` at the width. Assumes nothing.
use Rattle.std.proofs.Common.{◌∙◌, ap, cond, Bool, ◌*◌, arith}
use Rattle.number.specs.F64.{◌‼◌}
use Rattle.pcm.specs.Sample.{is_held, word_of}
use Rattle.pcm.proofs.SamplesLaws.{made_start, made_turn, made_end, room_for, from_bool_is, word_stored}
use Rattle.pcm.proofs.put.Goals as goal

pub loop-i-init : goal.loop-i-init
loop-i-init g c = made_start _ _ _ c.args.samples.now c.args.out.now c.requires

pub loop-i-preserved : goal.loop-i-preserved
loop-i-preserved g c =
    let k = g.W.Width.BYTES in
    let v = word_of (8 * k) (c.args.samples.now ‼ c.loop-i.i) in
    rw c.BYTES-k.ensures
    (made_turn k (word_of (8 * k)) (is_held (8 * k)) c.args.samples.now c.loop-i.out c.loop-i.held c.loop-i.i c.loop-i.invariant _ _ (omega arith)
    (word_stored c.loop-i.out c.to_le_bytes-bytes.result c.copy_from_slice.new.self (k * c.loop-i.i) k c.word.result v g.met.W.Width.within_a_word (room_for k _ _ (omega arith) c.loop-i.invariant.room) c.word.ensures c.to_le_bytes-bytes.ensures (rw c.BYTES-k.ensures at c.copy_from_slice.ensures.after))
    (c.from-held.ensures ∙ from_bool_is c.is_held.result ∙ ap (λ (b : Bool). cond b 1 0) c.is_held.ensures))

pub returns : goal.returns
returns g c =
    let r = made_end _ _ _ c.args.samples.now c.loop-i.out c.loop-i.held c.loop-i.i c.loop-i.invariant (omega arith) in
    record { held = r.0; bytes = r.1 }
