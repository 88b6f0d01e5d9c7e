-- `df1` meets its contract: the rows that are left make of the part here what all five make of it at the start. Assumes nothing.
use mathlib.Core.Path.{◌≡◌}
use Prim.Native.Nat.{◌-◌}
use Rattle.mlsa.specs.Mlsa.{part, first_row, downward}
use Rattle.mlsa.proofs.df1.Given as goal

abbrev pub invariant-loop-i : goal.invariant-loop-i
invariant-loop-i l = downward (first_row l.alpha l.c) (l.i - 1) (part l.d11 l.d12 l.s) ≡ downward (first_row l.alpha l.c) 5 (part l.initial.d11 l.initial.d12 l.initial.s)
