-- The queue of the noise keeps its 64 values: a filling is 32 pairs. Assumes nothing.
use mathlib.Core.Path.{◌≡◌, refl, ◌∙◌}
use Prim.Native.Nat.{ℕ, ◌*◌}
use native.Mathlib.Omega.{arith}
use lib.ListN.{length, length-append}
use lib.Ieee.{Float}
use Rattle.noise.specs.declared.Random.{Random}
use Rattle.std.specs.Prelude.{Option, None, Some}
use Rattle.noise.specs.declared.draw.Try.{Try}
use Rattle.noise.specs.Noise.{found_of, pair_step, pair_of, noise_of}
use Rattle.held.proofs.NoiseKeeps.{Made, noise_such}
use Rattle.stream.proofs.PartLaws.{After, after_made}
use Rattle.stream.proofs.MelLaws.{Has}

pair_two : (f : Option Try) → Made (Has 2) (λ (n : ℕ). Unit {0}) (pair_step f)
pair_two None = tt
pair_two (Some t) = (refl, tt)

one_pair : (bound next : ℕ) → Made (Has 2) (λ (n : ℕ). Unit {0}) (pair_of bound next)
unfolding pair_of
one_pair bound next = pair_two (found_of bound next)

abbrev pub Full : Random → Type 0
Full r = length r.queue ≡ 64

pub noise_full : (bound : ℕ) (z : Random) → Full z → After Full (noise_of bound z)
noise_full bound z h =
    after_made (λ (x : Float). Unit {0}) Full (noise_of bound z)
    (noise_such bound (Has 2) (λ (n : ℕ). Has (2 * n)) (λ (n : ℕ). Unit {0}) (one_pair bound) refl (λ n l m a b. length-append l m ∙ omega (arith, a, b))
    (λ (x : Float). Unit {0}) Full (λ queue next k u. (tt, k)) z tt (tt, h))
