-- `even` meets its contract: the odd factor of two goes to m. Assumes nothing.
use Rattle.std.proofs.Common.{arith}
use Rattle.root.proofs.Parts.{even_is}
use Rattle.root.proofs.pattern.even.Goals as goal

pub returns : goal.returns
returns c = let e = even_is c.args.m c.args.k c.requires.0 c.requires.1 in (e.is, e.least, e.most, omega arith)
