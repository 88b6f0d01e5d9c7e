-- `df` meets its contract: the stages that are left make of the taps here what all of them make of them at the start. Assumes nothing.
use mathlib.Core.Path.{◌≡◌}
use Prim.Native.Nat.{◌-◌, ◌*◌}
use Rattle.mglsa.specs.Mglsa.{passed, stages_from}
use Rattle.mglsa.proofs.df.Given as goal

abbrev pub invariant-loop-two : goal.invariant-loop-two
invariant-loop-two l = stages_from l.alpha l.c (l.stages - 2 * l.two) (2 * l.two) (passed l.d l.out) ≡ stages_from l.alpha l.c l.stages 0 (passed l.initial.d l.initial.out)
