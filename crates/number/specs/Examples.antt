-- Sums and products that wrap, computed. Assumes nothing.
use Rattle.std.specs.Prelude.{◌≡◌, ◌+◌, ◌-◌, ◌*◌, ◌%◌, ◌^◌, refl}

-- a draw of the generator from the state 1, as `wrapping_add` of a `wrapping_mul`
pub first_draw : (1 * 1103515245 % 2 ^ 64 + 12345) % 2 ^ 64 ≡ 1103527590
first_draw = refl

-- one whose product wraps: minus 1103515245, and 12345 more, modulo 2 ^ 64
pub draw_that_wraps : (0xffff_ffff_ffff_ffff * 1103515245 % 2 ^ 64 + 12345) % 2 ^ 64 ≡ 2 ^ 64 - 1103502900
draw_that_wraps = refl

pub sum_that_wraps : (0xffff_ffff_ffff_ffff + 2) % 2 ^ 64 ≡ 1
sum_that_wraps = refl
