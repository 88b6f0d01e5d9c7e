-- The pulse train and the noise stay f64s. Assumes nothing.
use Prim.Native.Nat.{ℕ}
use lib.Ieee.{Float, binary64, le}
use lib.Ieee.Fits.{add-fits, sub-fits, mul-fits}
use Rattle.number.specs.F64.{◌⊕◌, ◌⊖◌, 0f, 1f}
use Rattle.history.specs.Steps.{Step}
use Rattle.root.specs.Root.{root_of}
use Rattle.root.proofs.Laws.{root_fits}
use Rattle.noise.specs.declared.Random.{Random}
use Rattle.std.specs.Prelude.{Option, None, Some}
use Rattle.noise.specs.declared.draw.Try.{Try}
use Rattle.noise.specs.Noise.{found_of, multiplier_of, pair_step, pair_of, noise_of}
use Rattle.pulse.specs.declared.Pulse.{Pulse}
use Rattle.pulse.specs.declared.Pulsed.{Pulsed}
use Rattle.pulse.specs.Train.{train, voiced, pulse_of, pulse_after, end_of}
use Rattle.held.specs.Held.{Holds, AllHeld, HeldPulse}
use Rattle.held.proofs.OutcomesKeep.{either}
use Rattle.held.proofs.NoiseKeeps.{Made, noise_such}
use Rattle.held.proofs.HeldLists.{zero_held, held_at, held_append}

-- ---- the pulse train

pub record HeldPulsed (p : Pulsed) : Type 0 where
  pub sample : Holds p.sample
  pub pulse : HeldPulse p.pulse

pub pulse_held : (t : Pulse) → HeldPulse t → HeldPulsed (pulse_of t)
unfolding pulse_of
pulse_held t h =
    let counter = t.counter ⊕ 1f in
    let pitch = t.pitch ⊕ t.increment in
    let on : Holds pitch = add-fits binary64 t.pitch t.increment in
    either HeldPulsed (le t.pitch counter)
    (record { sample = root_of t.pitch; pulse = train pitch (counter ⊖ t.pitch) t.increment t.end })
    (record { sample = 0f; pulse = train pitch counter t.increment t.end })
    (record { sample = root_fits t.pitch h.pitch; pulse = record { pitch = on; counter = sub-fits binary64 counter t.pitch; increment = h.increment; end = h.end } })
    (record { sample = zero_held; pulse = record { pitch = on; counter = add-fits binary64 t.counter 1f; increment = h.increment; end = h.end } })

pub after_held : (t : Pulse) → HeldPulse t → HeldPulse (pulse_after t)
unfolding pulse_after
after_held t h = either HeldPulse (voiced t.pitch) (pulse_of t).pulse t (pulse_held t h).pulse h

pub end_held : (t : Pulse) → HeldPulse t → HeldPulse (end_of t)
unfolding end_of
end_held t h = record { pitch = h.end; counter = h.counter; increment = h.increment; end = h.end }

-- ---- the noise

pair_held : (f : Option Try) → Made AllHeld (λ (n : ℕ). Unit {0}) (pair_step f)
pair_held None = tt
pair_held (Some t) = ((mul-fits binary64 t.r1 (multiplier_of t.s), (mul-fits binary64 t.r2 (multiplier_of t.s), tt)), tt)

one_pair : (bound next : ℕ) → Made AllHeld (λ (n : ℕ). Unit {0}) (pair_of bound next)
unfolding pair_of
one_pair bound next = pair_held (found_of bound next)

abbrev pub HeldNoise : Step Random Float → Type 0
HeldNoise t = Made Holds (λ (r : Random). AllHeld r.queue) t

pub noise_held : (bound : ℕ) (z : Random) → AllHeld z.queue → HeldNoise (noise_of bound z)
noise_held bound z h =
    noise_such bound AllHeld (λ (n : ℕ). AllHeld) (λ (n : ℕ). Unit {0}) (one_pair bound) tt (λ n l m a b. held_append l m a b)
    Holds (λ (r : Random). AllHeld r.queue) (λ queue next k u. (held_at queue 0 k, k)) z tt (held_at z.queue z.used h, h)
