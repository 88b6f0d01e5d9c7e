-- `put_words`: storing the words from i on gives what storing all of them gives. Assumes nothing.
use Rattle.std.proofs.Common.{◌≡◌, ◌*◌, drop}
use Rattle.std.proofs.lemmas.List.Edits.{sets}
use Rattle.riff.specs.Writing.{bytes_of_words}
use Rattle.riff.proofs.writing.put_words.Given as goal

abbrev pub invariant-loop-i : goal.invariant-loop-i
invariant-loop-i l = sets l.out (4 * l.i) (bytes_of_words (drop l.i l.words)) ≡ sets l.initial.out 0 (bytes_of_words l.words)
