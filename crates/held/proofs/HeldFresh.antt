-- A voice at rest holds f64s alone, fresh or idle. Assumes nothing.
use mathlib.Core.Bool.{Bool, true, false}
use lib.Ieee.{binary64}
use lib.Ieee.Bits.{of_bits-fits}
use Rattle.noise.specs.declared.Random.{Random}
use Rattle.noise.specs.Noise.{fresh_random}
use Rattle.configuration.specs.declared.Configuration.{Configuration}
use Rattle.configuration.specs.Limits.{usual}
use Rattle.voice.specs.Voice.{at_rest, fresh_voice, idle_voice}
use Rattle.held.specs.Held.{AllHeld, HeldConfiguration, Held}
use Rattle.held.proofs.HeldLists.{zero_held, held_zeros}

rest_held : (c : Configuration) (first : Bool) (random : Random) → HeldConfiguration c → AllHeld random.queue → Held (at_rest c first random)
unfolding at_rest
rest_held c first random h k = record {
  configuration = h;
  pulse = record { pitch = zero_held; counter = zero_held; increment = zero_held; end = zero_held };
  line = held_zeros 64;
  lpf = held_zeros 64;
  queue = k;
  coefficients = held_zeros 64;
  increments = held_zeros 64;
  targets = held_zeros 64;
  zero = record { d11 = held_zeros 6; d12 = held_zeros 6; d21 = held_zeros 384; d22 = held_zeros 6 };
  nonzero = held_zeros 512;
}

-- A FRESH VOICE HOLDS f64s ALONE where its configuration does,
pub fresh_held : (c : Configuration) → HeldConfiguration c → Held (fresh_voice c)
fresh_held c h = rest_held c true fresh_random h (held_zeros 64)

-- and so does the idle one
pub idle_held : Held idle_voice
unfolding at_rest
idle_held =
    let zeros : HeldConfiguration idle_voice.configuration = record { alpha = zero_held; beta = zero_held; volume = zero_held; nodata = zero_held; low = zero_held; high = zero_held } in
    rest_held idle_voice.configuration false idle_voice.random zeros (held_zeros 64)

-- the usual configuration is one of f64s
pub usual_held : HeldConfiguration usual
usual_held = record {
  alpha = of_bits-fits binary64 0x3fda_e147_ae14_7ae1;
  beta = zero_held;
  volume = of_bits-fits binary64 0x3ff0_0000_0000_0000;
  nodata = of_bits-fits binary64 0xc202_a05f_2000_0000;
  low = of_bits-fits binary64 0x4007_f742_7b73_e391;
  high = of_bits-fits binary64 0x4023_ce95_eba4_f8b4;
}
