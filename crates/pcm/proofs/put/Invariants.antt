-- `put`: `Made` at the width. Assumes nothing.
use Rattle.std.proofs.Common.{◌*◌}
use Rattle.pcm.specs.Sample.{is_held, word_of}
use Rattle.pcm.proofs.SamplesLaws.{Made}
use Rattle.pcm.proofs.put.Given as goal

abbrev pub invariant-loop-i : goal.invariant-loop-i
invariant-loop-i g l = Made g.W.Width.BYTES (word_of (8 * g.W.Width.BYTES)) (is_held (8 * g.W.Width.BYTES)) l.samples l.out l.held l.i
