-- `push` meets its contract: what is done, and then the rest pushed on, is the whole. Assumes nothing.
use mathlib.Core.Path.{◌≡◌}
use mathlib.Core.List.{◌++◌}
use lib.ListN.{take, drop}
use Rattle.mglsa.specs.Mglsa.{pushed}
use Rattle.mglsa.proofs.push.Given as goal

abbrev pub invariant-loop-tap : goal.invariant-loop-tap
invariant-loop-tap l = take l.tap-index l.d ++ pushed l.before (drop l.tap-index l.d) ≡ pushed l.initial.before l.initial.d
