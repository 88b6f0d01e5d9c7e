-- What every pair of the noise makes such, a filling and the noise after a value are such: the values, their number, `next`. Assumes nothing.
use mathlib.Core.Path.{◌≡◌, refl, sym}
use mathlib.Core.Bool.{Bool, true, false, false≢true}
use mathlib.Core.List.{List, [], ◌++◌}
use Prim.Native.Nat.{ℕ, zero, suc}
use lib.Dec.{ltb}
use lib.Ieee.{Float}
use Rattle.history.specs.Steps.{Step, dry, one, Run, onward, steps}
use Rattle.noise.specs.declared.Random.{Random}
use Rattle.noise.specs.Noise.{pair_of, concat, filling_of, take_from, take_first, noise_of}
use Rattle.held.proofs.OutcomesKeep.{either}

-- a step whose sample and whose state after it are such
abbrev pub Made : {State Sample : Type 0} → (Sample → Type 0) → (State → Type 0) → Step State Sample → Type 0
Made P Q dry = Unit {0}
Made P Q (one x s) = P x × Q s

-- Two: what is said of a pair's values; Values: of those of n pairs; Next: of `next` after them
module _ (bound : ℕ) (Two : List Float → Type 0) (Values : ℕ → List Float → Type 0) (Next : ℕ → Type 0) (pair : (next : ℕ) → Made Two Next (pair_of bound next)) (none : Values 0 [])
    (more : (n : ℕ) (l m : List Float) → Two l → Values n m → Values (suc n) (l ++ m)) where
  record Pairs (n : ℕ) (run : Run ℕ (List Float)) : Type 0 where
    pub values : run.is_dry ≡ false → Values n (concat run.made)
    pub next : Next run.state

  abbrev pairs : ℕ → ℕ → Run ℕ (List Float)
  pairs n next = steps (pair_of bound) n next

  pairs_on : (n : ℕ) → ((next : ℕ) → Next next → Pairs n (pairs n next)) → (t : Step ℕ (List Float)) (s : ℕ) → Next s → Made Two Next t → Pairs (suc n) (onward t s (pairs n))
  pairs_on n again dry s k h = record { values = λ e. absurd (false≢true (sym e)); next = k }
  pairs_on n again (one l next) s k h =
      let on = again next h.1 in
      record { values = λ e. more n l (concat (pairs n next).made) h.0 (on.values e); next = on.next }

  pairs_such : (n next : ℕ) → Next next → Pairs n (pairs n next)
  unfolding steps
  pairs_such zero next k = record { values = λ e. none; next = k }
  pairs_such (suc n) next k = pairs_on n (pairs_such n) (pair_of bound next) next k (pair next)

  filling_such : (next : ℕ) → Next next → Made (Values 32) Next (filling_of bound next)
  unfolding filling_of
  filling_such next k = go (pairs 32 next).is_dry refl
    where
      go : (b : Bool) → (pairs 32 next).is_dry ≡ b → Made (Values 32) Next (filling_of bound next)
      go true e = rw e tt
      go false e = rw e ((pairs_such 32 next k).values e, (pairs_such 32 next k).next)

  -- S: what is said of a value that is taken; R: of the noise after it
  module _ (S : Float → Type 0) (R : Random → Type 0) (fresh : (queue : List Float) (next : ℕ) → Values 32 queue → Next next → Made S R (take_from (record { next = next; used = 0; queue = queue }))) where
    first_such : (t : Step ℕ (List Float)) → Made (Values 32) Next t → Made S R (take_first t)
    first_such dry h = tt
    first_such (one queue next) h = fresh queue next h.0 h.1

    pub noise_such : (z : Random) → Next z.next → Made S R (take_from z) → Made S R (noise_of bound z)
    unfolding noise_of
    noise_such z k h = either (Made S R) (ltb z.used 64) (take_from z) (take_first (filling_of bound z.next)) h (first_such (filling_of bound z.next) (filling_such z.next k))
