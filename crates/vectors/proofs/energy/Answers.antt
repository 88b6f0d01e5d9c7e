-- `energy` meets its contract: the terms that are left give what all of them give. Assumes nothing.
use mathlib.Core.Path.{◌≡◌, refl, sym, ◌∙◌}
use Prim.Native.Nat.{ℕ, ◌-◌}
use native.Mathlib.Omega.{arith}
use lib.ListN.{length}
use Rattle.number.specs.F64.{◌⊗◌, ◌‼◌}
use Rattle.vectors.specs.Vectors.{energy_of}
use Rattle.vectors.proofs.VectorLaws.{sum_turn, sum_done}
use Rattle.vectors.proofs.energy.Goals as goal

pub loop-i-init : goal.loop-i-init
unfolding energy_of
loop-i-init c =
    let e : length c.args.c.now - 0 ≡ length c.args.c.now = omega arith in
    rw e refl

pub loop-i-preserved : goal.loop-i-preserved
loop-i-preserved c =
    sum_turn (λ (j : ℕ). c.args.c.now ‼ j ⊗ c.args.c.now ‼ j) c.loop-i.i (length c.args.c.now) c.loop-i.sum (omega arith) ∙ c.loop-i.invariant

pub returns : goal.returns
returns c =
    sym (sum_done (λ (j : ℕ). c.args.c.now ‼ j ⊗ c.args.c.now ‼ j) c.loop-i.i (length c.args.c.now) c.loop-i.sum (omega arith)) ∙ c.loop-i.invariant
