-- `lsp2lpc` meets its contract: the chains are at rest. Assumes nothing.
use mathlib.Core.Path.{sym, ap, ◌∙◌}
use Prim.Native.Nat.{ℕ, ◌+◌, ◌/◌, ◌≤◌}
use native.Mathlib.Omega.{arith}
use lib.ListN.{length, replicate}
use Rattle.number.specs.F64.{0f}
use Rattle.lattice.proofs.LatticeLaws.{front_zeros, length_front}
use Rattle.lattice.proofs.lsp2lpc.Goals as goal

pub lpc_in-requires : goal.lpc_in-requires
lpc_in-requires c =
    let m = length c.args.lsp.now in
    let h1 : (m + 1) / 2 ≤ 32 = omega arith in
    let h2 : m / 2 ≤ 32 = omega arith in
    let a = front_zeros ((m + 1) / 2) 32 h1 in
    let b = front_zeros (m / 2) 32 h2 in
    let la = length_front ((m + 1) / 2) 32 h1 in
    let lb = length_front (m / 2) 32 h2 in
    let za = a ∙ ap (λ (n : ℕ). replicate n 0f) (sym la) in
    let zb = b ∙ ap (λ (n : ℕ). replicate n 0f) (sym lb) in
    record { lsp_len_bound = (omega arith, omega arith); p_len = (la, lb); a1_value = (za, za); b1_value = (zb, zb) }
