-- The toy with a meter keeps the laws, so they can be met, and its history meets every premise of demand 3. Assumes nothing.
use mathlib.Core.Path.{◌≡◌, refl, sym, ap}
use mathlib.Core.List.{List, [], ◌∷◌}
use mathlib.Core.Bool.{Bool, true, false}
use Prim.Native.Nat.{ℕ, zero, suc, ◌+◌, ◌-◌, ◌<◌}
use native.Mathlib.Omega.{arith}
use lib.Dec.{eqb, ltb}
use borrow.Author.Tests.{le-ltb, ltb-false}
use Rattle.history.specs.Steps.{one, steps}
use Rattle.history.specs.Machine.{answer, ◌⇒◌, first_of, gave, drew, whole, counted}
use Rattle.history.specs.History.{uncut, Smooth, Demand3, told, answered}
use Rattle.history.specs.Older.{Older}
use Rattle.history.specs.Histories.{Metered, metered, ticked, clocks, written, read_back, save_refusal, calls, story}
use Rattle.history.proofs.CallLaws.{Laws}
use Rattle.history.proofs.HistoryLaws.{demand_3, older}

none_left : (f : ℕ) (m : Metered) → clocks.refusal f m ≡ 0 → m.toy.rest ≡ 0
none_left f m = go (ltb 98 m.toy.at) (ltb 0 m.toy.rest) refl
  where
    go : (i b : Bool) → ltb 0 m.toy.rest ≡ b → first_of (i ⇒ 2 ∷ b ⇒ 3 ∷ eqb f 13 ⇒ 5 ∷ []) ≡ 0 → m.toy.rest ≡ 0
    go true b q e = absurd (omega arith)
    go false true q e = absurd (omega arith)
    go false false q e = omega (arith, ltb-false 0 m.toy.rest q)

-- one sample
Next : Metered → Metered → Type 0
Next m t = (t.padding ≡ 0) × (t.toy.rest + 1 ≡ m.toy.rest) × (t.meter ≡ m.meter + 1)

next : (n : ℕ) (m : Metered) (x : ℕ) (t : Metered) → m.padding ≡ 0 → 0 < m.toy.rest → ticked (counted n m.toy.rest) m ≡ one x t → Next m t
unfolding Next
next zero m x t g h e = absurd (let z : ◌≡◌ {A = ℕ} 0 1 = cc in omega arith)
next (suc n) m x t g h e =
    let q : t ≡ metered n (m.toy.rest - 1) (m.meter + 1) m.padding = cc in
    rw q (g, omega arith, refl)

back : (n : ℕ) (m into : Metered) → m.padding ≡ 0 → n ≡ 0 → read_back (written n m) into ≡ answer 0 [] m
back zero m into g e = ap (λ (p : ℕ). answer 0 [] (metered m.toy.at m.toy.rest m.meter p)) (sym g)
back (suc n) m into g e = absurd (omega arith)

rejected : (b : List ℕ) (m : Metered) → ((read_back b m).number ≡ 0 → ⊥) → read_back b m ≡ answer (read_back b m).number [] m
rejected (at ∷ rest ∷ meter ∷ []) m n = absurd (n refl)
rejected (at ∷ rest ∷ meter ∷ x ∷ xs) m n = refl
rejected (at ∷ rest ∷ []) m n = refl
rejected (at ∷ []) m n = refl
rejected [] m n = refl

pub laws : Laws calls
unfolding Next
laws = record {
  Good = λ m. m.padding ≡ 0;
  opens = λ c can e. (refl, refl, refl);
  gives = λ f m g i e. (none_left f m e, g, le-ltb 98 f (omega arith), refl, omega arith, refl);
  samples = λ m x t g h e. next m.toy.at m x t g h e;
  keeps = λ room m into g e. back (save_refusal room m) m into g e;
  rejects = λ b m g n. rejected b m n;
}

pub clocks_demand_3 : Demand3 calls (answered calls)
clocks_demand_3 = demand_3 calls laws

pub clocks_older : Older calls (answered calls)
clocks_older = older calls laws

-- the history of `Histories` is within the premises
smooth : Smooth calls (answered calls) story (metered 0 0 0 0)
unfolding Smooth answered gave drew whole steps
smooth = omega arith

-- and this is what the theorem says of it
pub story_joined : uncut clocks (7 ∷ 9 ∷ []) (metered 0 0 0 0) ≡ answer 0 (7 ∷ 6 ∷ 9 ∷ 8 ∷ []) (metered 7 0 4 0)
unfolding Demand3 told answered gave drew whole steps
story_joined = (clocks_demand_3 0 story tt refl smooth).0 refl
