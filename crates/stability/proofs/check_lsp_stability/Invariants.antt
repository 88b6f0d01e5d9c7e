-- `check_lsp_stability` meets its contract: the passes, and in a pass the gaps, that are left make what all of them make. Assumes nothing.
use mathlib.Core.Path.{◌≡◌}
use mathlib.Core.Bool.{false}
use Prim.Native.Nat.{◌+◌, ◌-◌, ◌≤◌}
use lib.ListN.{length}
use Rattle.stability.specs.Stability.{gaps, passes_of}
use Rattle.stability.proofs.StabilityLaws.{at}
use Rattle.stability.proofs.check_lsp_stability.Given as goal

abbrev pub invariant-loop-j : goal.invariant-loop-j
invariant-loop-j l = (1 ≤ l.j) × (l.j ≤ l.last) × (length l.lsp ≡ l.last + 1) × (length l.lsp ≤ 64) × (gaps l.min l.j (l.last - l.j) (at l.lsp l.find) ≡ gaps l.min 1 (l.last - 1) (at l.initial.lsp false))

abbrev pub invariant-passes : goal.invariant-passes
invariant-passes l = (l.pass ≤ 4) × (1 ≤ l.last) × (length l.lsp ≡ l.last + 1) × (length l.lsp ≡ length l.initial.lsp) × (length l.lsp ≤ 64) × (passes_of l.min l.last (4 - l.pass) l.lsp ≡ passes_of l.min l.last 4 l.initial.lsp)
