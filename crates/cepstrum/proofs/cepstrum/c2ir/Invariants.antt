-- `c2ir` meets its contract: the first n entries are made. Assumes nothing.
use Prim.Native.Nat.{◌≤◌}
use Rattle.cepstrum.proofs.CepstrumLaws.{Made}
use Rattle.cepstrum.proofs.cepstrum.c2ir.Given as goal

abbrev pub invariant-loop-n : goal.invariant-loop-n
invariant-loop-n l = (1 ≤ l.n) × (l.n ≤ 576) × Made l.c l.ir l.n
