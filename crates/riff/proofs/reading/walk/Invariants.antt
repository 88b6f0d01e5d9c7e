-- `walk`: the walk from here on is the walk from the first chunk on. Assumes nothing.
use Rattle.std.proofs.Common.{◌-◌, length}
use Rattle.riff.specs.Reading.{first, walk_of}
use Rattle.riff.proofs.ReadingLaws.{Walking}
use Rattle.riff.proofs.reading.walk.Given as goal

abbrev pub invariant-loop-c : goal.invariant-loop-c
invariant-loop-c l = Walking l.s l.end (walk_of (length l.s) l.s l.end first) l.c

abbrev pub decreases-loop-c : goal.decreases-loop-c
decreases-loop-c l = l.end - l.c.at
