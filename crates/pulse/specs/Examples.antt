-- The pulse train at computed points. Assumes nothing.
use Rattle.std.specs.Prelude.{◌≡◌, refl, true, false, pos, negsuc, Float, None, Some}
use Rattle.std.specs.Float.{nan, fin, binary64}
use Rattle.std.specs.Float.Ieee.{of_bits, of_int, add, sub, div, neg, eq, ne, lt, le}
use Rattle.number.specs.F64.{−◌, 0f, ½f, 1f, 2f}
use Rattle.root.specs.Root.{floor_root, nearest_root, units_of, root_of_units, root_of}
use Rattle.pulse.specs.Train.{voiced, train, fresh_pulse, start_of, pulse_of, pulse_after, end_of}

-- numbers as floats
abbrev 3f : Float
3f = of_bits binary64 0x4008_0000_0000_0000

abbrev 4f : Float
4f = of_bits binary64 0x4010_0000_0000_0000

-- the NaN is a pitch, -0 is none
pub nan_voiced : voiced nan ≡ true
unfolding ne eq of_bits
nan_voiced = refl

pub minus_zero_unvoiced : voiced (− 0f) ≡ false
unfolding ne eq neg of_bits
minus_zero_unvoiced = refl

-- from pitch 2 to 4 in four samples: by a half each
pub start_by_steps : start_of (train 2f 1f 0f 2f) (Some 4f) 4 ≡ train 2f 1f (fin false 1 (negsuc 0)) 4f
unfolding start_of ne eq sub add neg div of_int of_bits
start_by_steps = refl

-- to an unvoiced frame at once
pub start_at_once : start_of (train 2f 1f 1f 2f) None 4 ≡ fresh_pulse
unfolding start_of ne eq of_bits
start_at_once = refl

-- the counter is less by the pitch, and not 0; the pitch gains its increment
pub pulse_comes : pulse_of (train 4f 4f 1f 2f) ≡ record { sample = fin false 1 (pos 1); pulse = train (fin false 5 (pos 0)) (fin false 1 (pos 0)) 1f 2f }
unfolding pulse_of le lt add sub neg root_of root_of_units units_of nearest_root floor_root of_bits
pulse_comes = refl

-- a NaN pitch has no pulse
pub nan_no_pulse : pulse_of (train nan 3f 0f nan) ≡ record { sample = 0f; pulse = train nan (fin false 1 (pos 2)) 0f nan }
unfolding pulse_of le lt add of_bits
nan_no_pulse = refl

-- where the pitch is 0 the increment is not added
pub unvoiced_stays : pulse_after (train 0f 3f 1f 2f) ≡ train 0f 3f 1f 2f
unfolding pulse_after ne eq of_bits
unvoiced_stays = refl

pub frame_ends : end_of (train 3f 1f ½f 4f) ≡ train 4f 1f ½f 4f
unfolding end_of
frame_ends = refl
