-- A draw and a try, as document 01 has them. Definitions only; Examples computes them.
use Rattle.std.specs.Prelude.{Bool, ℕ, ◌+◌, ◌*◌, ◌/◌, ◌%◌, ◌^◌, pos, Float}
use Rattle.std.specs.Float.{binary64}
use Rattle.std.specs.Float.Ieee.{of_bits, of_int}
use Rattle.number.specs.F64.{◌⊕◌, ◌⊖◌, ◌⊗◌, ◌⊘◌, 0f, 1f, 2f}
use Rattle.number.specs.Range.{is_strictly_within}
use Rattle.noise.specs.declared.draw.Try.{Try}

-- 4,096 rejected tries running for one pair, and the noise is dry
abbrev pub tries : ℕ
tries = 4096

-- the state after a draw
abbrev pub draw_of : ℕ → ℕ
draw_of next = (next * 1103515245 + 12345) % 2 ^ 64

-- the number r of that state, and the value r / 32767
abbrev pub r_of : ℕ → ℕ
r_of next = next / 65536 % 32768

abbrev pub 32767f : Float
32767f = of_bits binary64 0x40df_ffc0_0000_0000

unfoldable pub value_of : ℕ → Float
value_of next = of_int binary64 (pos (r_of next)) ⊘ 32767f

-- a try takes two draws
unfoldable pub try_of : ℕ → Try
try_of next =
    let first = draw_of next in
    let second = draw_of first in
    let r1 = 2f ⊗ value_of first ⊖ 1f in
    let r2 = 2f ⊗ value_of second ⊖ 1f in
    record { r1 = r1; r2 = r2; s = r1 ⊗ r1 ⊕ r2 ⊗ r2; next = second }

-- and is accepted when 0 < s < 1
abbrev pub accepted : Try → Bool
accepted t = is_strictly_within t.s 0f 1f
