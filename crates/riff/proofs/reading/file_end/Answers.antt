-- `file_end`: by its tests. Assumes nothing.
use mathlib.Core.Path.{refl}
use native.Mathlib.Omega.{arith}
use borrow.Author.Tests.{lt-ltb, le-ltb}
use Rattle.riff.specs.Reading.{end_of}
use Rattle.riff.proofs.reading.file_end.Goals as goal

pub returns-then-s-lt12 : goal.returns-then-s-lt12
unfolding end_of
returns-then-s-lt12 c = (rw (lt-ltb _ _ c.if-s-lt12.true) refl, tt)

pub returns-then-riff-wave : goal.returns-then-riff-wave
unfolding end_of
returns-then-riff-wave c = (rw (le-ltb _ _ c.if-s-lt12.false, ← c.four-riff.ensures.0, ← c.four-size.ensures.0, ← c.four-wave.ensures.0, c.if-riff-wave.true) refl, tt)

pub returns-then-s-size : goal.returns-then-s-size
unfolding end_of
returns-then-s-size c = (rw (le-ltb _ _ c.if-s-lt12.false, ← c.four-riff.ensures.0, ← c.four-size.ensures.0, ← c.four-wave.ensures.0, c.if-riff-wave.false, lt-ltb _ _ c.if-s-size.true) refl, tt)

pub returns : goal.returns
unfolding end_of
returns c = (rw (le-ltb _ _ c.if-s-lt12.false, ← c.four-riff.ensures.0, ← c.four-size.ensures.0, ← c.four-wave.ensures.0, c.if-riff-wave.false, le-ltb _ _ c.if-s-size.false) refl, (omega arith, omega (arith, c.four-size.ensures.1)))
