-- `fill`: storing the samples from i on gives what storing all of them gives. Assumes nothing.
use Rattle.std.proofs.Common.{◌≡◌, ◌+◌, ◌-◌, ◌*◌, length}
use Rattle.std.proofs.lemmas.List.Edits.{sets}
use Rattle.riff.specs.Reading.{numbers_in}
use Rattle.riff.proofs.reading.fill.Given as goal

abbrev pub invariant-loop-i : goal.invariant-loop-i
invariant-loop-i g l =
    (length l.out ≡ length l.initial.out) × (sets l.out l.i (numbers_in (l.n - l.i) g.row.K l.s (l.start + g.row.K * l.i)) ≡ sets l.initial.out 0 (numbers_in l.n g.row.K l.s l.start))
