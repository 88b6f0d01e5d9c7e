-- `rounded` meets its contract: the pattern that it makes is the definition's float. Assumes nothing.
use Rattle.std.proofs.Common.{◌+◌, ◌*◌}
use Rattle.root.proofs.Parts.{H}
use Rattle.root.proofs.Floats.{no_nan}
use Rattle.root.proofs.Answers.{answer_below, answer_is}
use Rattle.root.proofs.rounded.Goals as goal

pub float_from_bits-result : goal.float_from_bits-result
float_from_bits-result c =
    no_nan ((c.split-p.result.j + 484) * H + c.checked-root.result) (answer_below c.args.b c.split-p.result.m c.split-p.result.j c.split-p.ensures c.checked-root.result c.checked-root.ensures)

pub returns : goal.returns
returns c =
    answer_is c.args.b c.split-p.result.m c.split-p.result.j c.split-p.ensures c.checked-root.result c.checked-root.ensures
