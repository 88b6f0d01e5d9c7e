-- Padding at computed points. Assumes nothing.
use Rattle.std.specs.Prelude.{◌≡◌, refl, List, [], ◌∷◌, ℕ, replicate, Float}
use Rattle.std.proofs.Common.{ap, arith}
use Rattle.std.specs.Float.Ieee.{of_bits, to_bits}
use Rattle.number.specs.F64.{0f, 1f, ◌‼◌}
use Rattle.number.specs.Bits.{bits_of}
use Rattle.voice.specs.Voice.{at_rest, fresh_voice}
use Rattle.slots.specs.Examples.{ordered}
use Rattle.trips.specs.Clean.{zeros_from, clean_zero, clean_nonzero, Clean}

-- of four entries the first two stay
pub two_stay : zeros_from 2 4 (1f ∷ 1f ∷ 1f ∷ 1f ∷ []) ≡ 1f ∷ 1f ∷ 0f ∷ 0f ∷ []
two_stay = refl

-- fresh voices are clean, at stage 0 and at another
pub fresh_clean : Clean (fresh_voice (ordered 2 0 0))
unfolding at_rest clean_zero clean_nonzero
fresh_clean = record { line = refl; lpf = refl; coefficients = refl; increments = refl; targets = refl; zero = refl; nonzero = refl }

pub other_stage_clean : Clean (fresh_voice (ordered 3 2 4))
unfolding at_rest clean_zero clean_nonzero
other_stage_clean = record { line = refl; lpf = refl; coefficients = refl; increments = refl; targets = refl; zero = refl; nonzero = refl }

-- a line of no taps with a number in it is not clean
abbrev soiled : List Float
soiled = 1f ∷ replicate 63 0f

pub number_past_the_taps : soiled ≡ zeros_from 0 64 soiled → ⊥
unfolding of_bits to_bits
number_past_the_taps e =
    let bits : bits_of 1f ≡ bits_of 0f = ap (λ (l : List Float). bits_of (l ‼ 0)) e in
    let z : ◌≡◌ {A = ℕ} 0x3ff0_0000_0000_0000 0 = bits in
    omega arith
