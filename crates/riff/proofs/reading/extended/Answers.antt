-- `extended`: its four tests. Assumes nothing.
use mathlib.Core.Path.{refl}
use Rattle.riff.specs.Reading.{extended_of}
use Rattle.riff.proofs.reading.extended.Goals as goal

pub returns : goal.returns
unfolding extended_of
returns c = rw (c.four.ensures.0, c.four-2.ensures.0, c.four-3.ensures.0, c.four-4.ensures.0) refl
