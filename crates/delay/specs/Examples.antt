-- The delay line at computed points. Assumes nothing.
use Rattle.std.specs.Prelude.{◌≡◌, refl, [], ◌∷◌, false, pos, Float}
use Rattle.std.specs.Float.{fin, binary64}
use Rattle.std.specs.Float.Ieee.{of_bits, add, mul}
use Rattle.number.specs.F64.{0f, ½f, 1f, 2f}
use Rattle.delay.specs.Line.{with_noise, with_pulse, shifted}

abbrev 3f : Float
3f = of_bits binary64 0x4008_0000_0000_0000

-- of four taps the noise goes to tap 1
pub noise_to_tap_one : with_noise 2f (1f ∷ 1f ∷ 1f ∷ 1f ∷ []) ≡ 1f ∷ fin false 3 (pos 0) ∷ 1f ∷ 1f ∷ []
unfolding with_noise add of_bits
noise_to_tap_one = refl

pub pulse_to_each : with_pulse 2f (1f ∷ ½f ∷ []) (1f ∷ 1f ∷ []) ≡ fin false 3 (pos 0) ∷ fin false 1 (pos 1) ∷ []
unfolding with_pulse add mul of_bits
pulse_to_each = refl

-- with one filter tap the second tap of the line stays
pub taps_past_the_end_stay : with_pulse 2f (1f ∷ []) (1f ∷ 1f ∷ []) ≡ fin false 3 (pos 0) ∷ 1f ∷ []
unfolding with_pulse add mul of_bits
taps_past_the_end_stay = refl

pub zero_comes_in : shifted (1f ∷ 2f ∷ 3f ∷ []) ≡ 2f ∷ 3f ∷ 0f ∷ []
unfolding shifted
zero_comes_in = refl
