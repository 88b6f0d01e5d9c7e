-- Four of the five empty versions fall to demand 3. The fifth, refusing everything, accepts no frame and falls to demand 2 alone. Assumes nothing.
use mathlib.Core.Path.{◌≡◌, refl, ap}
use mathlib.Core.List.{List, [], ◌∷◌}
use Prim.Native.Nat.{ℕ}
use native.Mathlib.Omega.{arith}
use lib.ListN.{length, get_or}
use Rattle.history.specs.Steps.{steps}
use Rattle.history.specs.Machine.{Answer, gave, drew}
use Rattle.history.specs.History.{Call, give, draw, framed, uncut, told, Smooth, Demand3, answered}
use Rattle.history.specs.Histories.{Metered, calls}
use Rattle.history.specs.Empty.{fixed, untouched, eager, invented}

-- a frame that makes 9 and 8, cut
abbrev cut : List (Call calls)
cut = give 9 ∷ draw 1 ∷ draw 1 ∷ []

-- 9 and 8 uncut, 7 and 7 drawn
pub fixed_falls : Demand3 calls fixed → ⊥
unfolding Demand3 Smooth told fixed answered gave drew steps uncut framed
fixed_falls d = let z : ◌≡◌ {A = ℕ} 9 7 = ap (λ (a : Answer Metered ℕ). get_or a.made 0 0) ((d 0 cut tt refl (omega arith)).0 refl) in omega arith

-- a frame was accepted, and nothing is left to draw
pub untouched_falls : Demand3 calls untouched → ⊥
unfolding Demand3 Smooth told untouched answered gave drew steps uncut framed
untouched_falls d = let z : ◌≡◌ {A = ℕ} 2 0 = ap (λ (a : Answer Metered ℕ). length a.made) ((d 0 (give 9 ∷ []) tt refl (omega arith)).0 refl) in omega arith

-- at the first cut: 9 and 8 uncut, 9 and 7 drawn
pub eager_falls : Demand3 calls eager → ⊥
unfolding Demand3 Smooth told eager answered gave drew steps uncut framed
eager_falls d = let z : ◌≡◌ {A = ℕ} 8 7 = ap (λ (a : Answer Metered ℕ). get_or a.made 1 0) ((d 0 cut tt refl (omega arith)).0 refl) in omega arith

-- no sample is made, and the meter says 2
pub invented_falls : Demand3 invented (answered invented) → ⊥
unfolding Demand3 Smooth told answered gave steps
invented_falls d = let z : ◌≡◌ {A = ℕ} 2 0 = (d 0 (give 9 ∷ []) tt refl (omega arith)).1 in omega arith
