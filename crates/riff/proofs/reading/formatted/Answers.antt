-- `formatted`: by its tests. Assumes nothing.
use mathlib.Core.Path.{refl}
use borrow.Author.Tests.{lt-ltb, le-ltb}
use Rattle.std.proofs.lemmas.Result.{err_from_is_err_and}
use Rattle.riff.specs.declared.refusal.Refusal.TheVariants.{NotSoundFile}
use Rattle.riff.specs.Reading.{format_of}
use Rattle.riff.proofs.ReadingLaws.{ok_known, err_known}
use Rattle.riff.proofs.reading.formatted.Goals as goal

pub returns-then-is_some-size : goal.returns-then-is_some-size
unfolding format_of
returns-then-is_some-size c = rw (← c.is_some.ensures, c.if-is_some-size.true) refl

pub returns-then-room-size : goal.returns-then-room-size
unfolding format_of
returns-then-room-size c = rw (← c.is_some.ensures, c.if-is_some-size.false, lt-ltb _ _ c.if-room-size.true) refl

pub returns-in_err-width : goal.returns-in_err-width
unfolding format_of
returns-in_err-width c =
    let p = err_from_is_err_and c.from_residual.result c.from_residual.ensures.1 in
    let k = err_known NotSoundFile _ _ c.in_err-width.ensures.value in
    rw (p.1, p.2, ← c.is_some.ensures, c.if-is_some-size.false, le-ltb _ _ c.if-room-size.false, ← c.block.ensures, k.0, k.1) refl

pub returns : goal.returns
unfolding format_of
returns c =
    rw (← c.is_some.ensures, c.if-is_some-size.false, le-ltb _ _ c.if-room-size.false, ← c.block.ensures, ok_known NotSoundFile _ _ c.in_ok-width.ensures.value, ← c.four-rate.ensures.0) refl
