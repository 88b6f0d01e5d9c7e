-- `sampled`: by its tests. Assumes nothing.
use mathlib.Core.Path.{refl}
use borrow.Author.Tests.{lt-ltb, le-ltb}
use Rattle.std.proofs.lemmas.Result.{err_from_is_err_and}
use Rattle.riff.specs.declared.refusal.Refusal.TheVariants.{NotSoundFile}
use Rattle.riff.specs.Reading.{sampled_of}
use Rattle.riff.proofs.ReadingLaws.{ok_known, err_known}
use Rattle.riff.proofs.reading.sampled.Goals as goal

pub returns-in_err-format : goal.returns-in_err-format
unfolding sampled_of
returns-in_err-format c =
    let p = err_from_is_err_and c.from_residual.result c.from_residual.ensures.1 in
    let k = err_known NotSoundFile _ _ c.in_err-format.ensures.value in
    rw (p.1, p.2, k.0, k.1) refl

pub returns-then-is_some-size : goal.returns-then-is_some-size
unfolding sampled_of
returns-then-is_some-size c =
    rw (ok_known NotSoundFile _ _ c.in_ok-format.ensures.value, ← c.is_some.ensures, ← c.bytes_in.ensures.0, c.if-is_some-size.true) refl

pub returns-then-room-size : goal.returns-then-room-size
unfolding sampled_of
returns-then-room-size c =
    rw (ok_known NotSoundFile _ _ c.in_ok-format.ensures.value, ← c.is_some.ensures, ← c.bytes_in.ensures.0, c.if-is_some-size.false, lt-ltb _ _ c.if-room-size.true) refl

pub returns : goal.returns
unfolding sampled_of
returns c =
    rw (ok_known NotSoundFile _ _ c.in_ok-format.ensures.value, ← c.is_some.ensures, ← c.bytes_in.ensures.0, c.if-is_some-size.false, le-ltb _ _ c.if-room-size.false) refl
