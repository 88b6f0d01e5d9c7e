-- `times` meets its contract: each turn is one product of the definition. Assumes nothing.
use mathlib.Core.Path.{◌≡◌, refl, sym, ap, ◌∙◌}
use Prim.Native.Nat.{ℕ, ◌+◌}
use native.Mathlib.Numerals.{add-one}
use native.Mathlib.Omega.{arith}
use lib.Ieee.{Float}
use Rattle.number.specs.F64.{◌⊗◌}
use Rattle.power.specs.Power.{products}
use Rattle.power.proofs.times.Goals as goal

pub loop-i-init : goal.loop-i-init
unfolding products
loop-i-init c = (omega arith, refl)

turn : (x c p : Float) (i : ℕ) → p ≡ products x c i → p ⊗ c ≡ products x c (i + 1)
unfolding products
turn x c p i e = ap (λ (z : Float). z ⊗ c) e ∙ sym (ap (products x c) (add-one i))

pub loop-i-preserved : goal.loop-i-preserved
loop-i-preserved c =
    (omega arith, turn c.args.x c.args.c c.loop-i.p c.loop-i.i c.loop-i.invariant.1)
