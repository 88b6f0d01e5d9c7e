-- `weights` meets its contract: the entries that are left decide. Assumes nothing.
use mathlib.Core.Path.{◌≡◌}
use Prim.Native.Nat.{◌≤◌}
use lib.ListN.{length, drop}
use Rattle.lattice.specs.Lattice.{every_other}
use Rattle.lattice.proofs.LatticeLaws.{Weighed}
use Rattle.lattice.proofs.weights.Given as goal

abbrev pub invariant-loop-i : goal.invariant-loop-i
invariant-loop-i l = (l.i ≤ length l.q) × (length l.p ≡ length l.initial.p) × (length l.q ≡ length l.initial.q) × Weighed (every_other l.lsp) l.p l.i × Weighed (every_other (drop 1 l.lsp)) l.q l.i
