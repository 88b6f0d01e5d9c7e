-- The noise's `next` stays below 2^64. Assumes nothing.
use mathlib.Core.Path.{◌≡◌}
use mathlib.Core.List.{List}
use Prim.Native.Nat.{ℕ, zero, suc, ◌^◌, ◌<◌}
use native.Mathlib.Nat.{mod-lt}
use lib.Dec.{lit<}
use lib.Ieee.{Float}
use Rattle.history.specs.Steps.{one}
use Rattle.noise.specs.declared.Random.{Random}
use Rattle.noise.specs.Draw.{try_of, accepted}
use Rattle.noise.specs.Noise.{found_of, pair_step, pair_of, noise_of}
use Rattle.std.specs.Prelude.{Some}
use Rattle.excitation.specs.Excitation.{Excitation}
use Rattle.voice.specs.declared.Voice.{Voice}
use Rattle.drawing.specs.Step.{taps_of, excitation_of, step}
use Rattle.held.proofs.OutcomesKeep.{either}
use Rattle.held.proofs.NoiseKeeps.{Made, noise_such}
use Rattle.stream.proofs.PartLaws.{After, after_made, at_end, turned, after, after_step, noise_after}

abbrev pub Below : ℕ → Type 0
Below n = n < 2 ^ 64

try_below : (next : ℕ) → Below (try_of next).next
unfolding try_of
try_below next = mod-lt _ (lit< tt)

-- whatever the values are
abbrev Any : List Float → Type 0
Any l = Unit {0}

pair_below : (bound next : ℕ) → Made Any Below (pair_step (found_of bound next))
unfolding found_of
pair_below zero next = tt
pair_below (suc bound) next =
    let t = try_of next in
    either (λ f. Made Any Below (pair_step f)) (accepted t) (Some t) (found_of bound t.next) (tt, try_below next) (pair_below bound t.next)

module _ (bound : ℕ) where
  one_pair : (next : ℕ) → Made Any Below (pair_of bound next)
  unfolding pair_of
  one_pair next = pair_below bound next

  noise_below : (z : Random) → Below z.next → After (λ (r : Random). Below r.next) (noise_of bound z)
  noise_below z h =
      after_made (λ (x : Float). Unit {0}) (λ (r : Random). Below r.next) (noise_of bound z)
      (noise_such bound Any (λ (n : ℕ). Any) Below one_pair tt (λ n l m a b. tt) (λ (x : Float). Unit {0}) (λ (r : Random). Below r.next) (λ queue next k u. (tt, u)) z h (tt, h))

  pub step_next : (v t : Voice) (x : Float) → Below v.random.next → step bound v ≡ one x t → Below t.random.next
  step_next v t x h e =
      after_step (λ (w : Voice). Below w.random.next) (λ (s : Excitation). Below s.random.next) v kept bound t x
      (noise_after (λ (r : Random). Below r.next) bound (taps_of v) (excitation_of v) h (noise_below v.random h)) e
    where
      kept : (y : Float) (s : Excitation) → Below s.random.next → Below (after v y s).random.next
      kept y s k = at_end (λ (w : Voice). Below w.random.next) (turned v y s) k k
