-- The computed history of the voice meets every premise of demand 3, and this is what the theorem says of it. Assumes nothing.
use mathlib.Core.Path.{◌≡◌, refl}
use mathlib.Core.List.{[], ◌∷◌}
use Prim.Native.Nat.{ℕ}
use native.Mathlib.Omega.{arith}
use lib.ListN.{length}
use lib.Ieee.{binary64}
use lib.Ieee.Bits.{of_bits-fits}
use Rattle.history.specs.Machine.{answer}
use Rattle.history.specs.History.{uncut, answered, Smooth, Demand3}
use Rattle.noise.specs.Draw.{tries}
use Rattle.voice.specs.Open.{opened_voice}
use Rattle.drawing.specs.Draw.{voice_of}
use Rattle.held.specs.Held.{Holds, HeldConfiguration, HeldFrame}
use Rattle.held.proofs.HeldLists.{zero_held}
use Rattle.number.specs.F64.{1f}
use Rattle.stream.specs.Stream.{voice_calls}
use Rattle.stream.specs.Computed.{small, flat, story, samples, end, tale, story_opened}
use Rattle.stream.proofs.Demand3.{voice_demand_3}

-- its floats are f64
one_held : Holds 1f
one_held = of_bits-fits binary64 0x3ff0_0000_0000_0000

pub openable : HeldConfiguration small
openable = record { alpha = zero_held; beta = zero_held; volume = one_held; nodata = one_held; low = zero_held; high = zero_held }

flat_held : HeldFrame flat
flat_held = record { lf0 = zero_held; spectrum = (zero_held, (zero_held, tt)); lpf = tt }

-- no draw answers 11, and the restore of a wrong byte does not answer 0
done_not_dry : ◌≡◌ {A = ℕ} 0 11 → ⊥
done_not_dry e = omega (arith, e)

empty_not_dry : ◌≡◌ {A = ℕ} 10 11 → ⊥
empty_not_dry e = omega (arith, e)

wrong_not_done : ◌≡◌ {A = ℕ} 13 0 → ⊥
wrong_not_done e = omega (arith, e)

pub smooth : Smooth (voice_calls tries) (answered (voice_calls tries)) (story flat) (opened_voice small)
unfolding Smooth tale
smooth = (flat_held, (flat_held, (done_not_dry, (done_not_dry, (tt, (wrong_not_done, (tt, (done_not_dry, (empty_not_dry, ((flat_held, done_not_dry), tt))))))))))

-- THE THEOREM, applied: the same equation as `story_uncut`, which computes it; and the meter
pub by_demand_3 : uncut (voice_of tries) (flat ∷ flat ∷ []) (opened_voice small) ≡ answer 0 samples end
unfolding Demand3 tale
by_demand_3 = (voice_demand_3 small (story flat) openable story_opened smooth).0 refl

pub meter_by_demand_3 : end.meter ≡ length samples
unfolding Demand3 tale
meter_by_demand_3 = (voice_demand_3 small (story flat) openable story_opened smooth).1
