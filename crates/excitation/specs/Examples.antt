-- The definitions at computed points. Assumes nothing.
use Rattle.std.specs.Prelude.{◌≡◌, refl, List, [], ◌∷◌, ◌++◌, false, pos, negsuc, replicate, Float, Some}
use Rattle.std.specs.Float.{fin, binary64}
use Rattle.std.specs.Float.Ieee.{of_bits, add, sub, mul, neg, eq, ne, lt, le}
use Rattle.number.specs.F64.{−◌, 0f, ½f, 1f, 2f}
use Rattle.root.specs.Root.{floor_root, nearest_root, units_of, root_of_units, root_of}
use Rattle.history.specs.Steps.{stopped, steps}
use Rattle.noise.specs.Draw.{tries}
use Rattle.noise.specs.Noise.{found_of, pair_of, filling_of, noise_of, fresh_random}
use Rattle.pulse.specs.Train.{train, fresh_pulse, start_of, pulse_of, pulse_after}
use Rattle.delay.specs.Line.{with_noise, with_pulse, shifted}
use Rattle.excitation.specs.Excitation.{state, plain_step, mixed_line, mixed_step, step_of, stretch_of}

-- numbers as floats
abbrev 3f : Float
3f = of_bits binary64 0x4008_0000_0000_0000

abbrev 3½f : Float
3½f = of_bits binary64 0x400c_0000_0000_0000

abbrev ¼f : Float
¼f = of_bits binary64 0x3fd0_0000_0000_0000

abbrev 5f : Float
5f = of_bits binary64 0x4014_0000_0000_0000

abbrev 4f : Float
4f = of_bits binary64 0x4010_0000_0000_0000

-- document 01, item 8: pitch 4 from rest, nlpf 0
pub eight : (stretch_of tries [] 8 (state (start_of fresh_pulse (Some 4f) 8) fresh_random [])).made ≡ 2f ∷ 0f ∷ 0f ∷ 2f ∷ 0f ∷ 0f ∷ 0f ∷ 2f ∷ []
unfolding steps step_of plain_step pulse_of start_of ne eq le lt add sub neg root_of root_of_units units_of nearest_root floor_root of_bits
eight = refl

-- three taps, two values of the noise left, and no try for more: two samples, and then dry, with the state as after the second
abbrev two_left : List Float
two_left = replicate 62 0f ++ (½f ∷ − 1f ∷ [])

pub two_and_dry : stretch_of 0 (fin false 1 (negsuc 1) ∷ ½f ∷ 1f ∷ []) 5 (state (train 4f 3½f ¼f 5f) (record { next = 7; used = 62; queue = two_left }) (1f ∷ 2f ∷ 3f ∷ []))
    ≡ stopped (fin false 11 (negsuc 2) ∷ fin false 7 (negsuc 0) ∷ [])
    (state (train (fin false 9 (negsuc 0)) (fin false 3 (negsuc 0)) ¼f 5f) (record { next = 7; used = 64; queue = two_left }) (fin false 1 (pos 2) ∷ fin false 1 (pos 0) ∷ fin false 0 (pos 0) ∷ []))
unfolding steps step_of mixed_step mixed_line pulse_after pulse_of with_noise with_pulse shifted noise_of filling_of pair_of found_of ne eq le lt add sub mul neg root_of root_of_units units_of nearest_root floor_root of_bits
two_and_dry = refl
