-- `responses` meets its contract: of both responses the first n entries are made, and r is the two, none later than `high`. Assumes nothing.
use mathlib.Core.Path.{◌≡◌}
use Prim.Native.Nat.{◌≤◌}
use lib.ListN.{length}
use Rattle.cepstrum.proofs.CepstrumLaws.{Made}
use Rattle.energies.specs.Sizes.{Highest}
use Rattle.energies.proofs.PairLaws.{Paired}
use Rattle.energies.proofs.responses.Given as goal

abbrev pub invariant-loop-n : goal.invariant-loop-n
invariant-loop-n l = (1 ≤ l.n) × (l.n ≤ 576) × (length l.r ≡ 1152) × Made l.c1 l.r1 l.n × Made l.c2 l.r2 l.n × Paired l.r l.r1 l.r2 × Highest l.high l.n l.r
