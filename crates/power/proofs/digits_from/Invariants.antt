-- `digits_from` meets its contract: what is left to find is what the definition leaves. Assumes nothing.
use mathlib.Core.Path.{◌≡◌}
use Prim.Native.Nat.{◌+◌, ◌^◌, ◌≤◌}
use Rattle.power.specs.Power.{digits}
use Rattle.power.proofs.digits_from.Given as goal

abbrev pub invariant-loop-n : goal.invariant-loop-n
invariant-loop-n l = (l.n ≤ 52) × (l.m + 2 ^ l.n ≤ 2 ^ 52) × (digits l.v l.s l.n l.m ≡ digits l.v l.s l.count l.start)
