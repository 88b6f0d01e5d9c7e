-- `floor_root` meets its contract: each turn keeps `Turned`, whichever way its test goes. Assumes nothing.
use Rattle.root.proofs.Turns.{Turned}
use Rattle.root.proofs.digits.floor_root.Given as goal

abbrev pub invariant-loop-i : goal.invariant-loop-i
invariant-loop-i l = Turned l.m l.digits l.root l.rest l.i
