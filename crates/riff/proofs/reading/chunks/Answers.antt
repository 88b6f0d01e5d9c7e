-- `chunks`: the walk up to the file's end. Assumes nothing.
use Rattle.std.proofs.Common.{◌∙◌, ap}
use Rattle.riff.specs.Reading.{walk_to}
use Rattle.riff.proofs.ReadingLaws.{end_long, walk_found}
use Rattle.riff.proofs.reading.chunks.Goals as goal

pub walk-requires : goal.walk-requires
walk-requires c = (end_long c.args.s.now _ c.in_ok-end.ensures.0, c.in_ok-end.ensures.1.0, c.in_ok-end.ensures.1.1)

pub returns : goal.returns
returns c =
    (c.walk.ensures ∙ ap (walk_to c.args.s.now) c.in_ok-end.ensures.0, rw c.walk.ensures (walk_found c.args.s.now _ c.in_ok-end.ensures.1.0))
