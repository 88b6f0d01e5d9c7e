-- The whole number of a sample at a width of w bits, and whether it is held back. Document 02, L4: "the sample rounded to nearest, ties to even, held to -32768 and 32767, NaN as 0";
-- "the 24-bit form takes the sample times 256, held to -8388608 and 8388607". Assumes nothing.
use Rattle.std.specs.Prelude.{◌≡◌, refl, Bool, true, false, cond, ℕ, suc, ◌+◌, ◌-◌, ◌*◌, ◌%◌, ◌^◌, ◌≤◌, min, ltb, ℤ, pos, negsuc, neg_ℤ, Float}
use Rattle.std.specs.Float.{nan, inf, fin, binary64}
use Rattle.std.specs.Float.Ieee.{up, down, of_bits, mul}
use Rattle.std.specs.Float.Ieee.Nearest.{closest}
use Rattle.number.specs.F64.{◌⊗◌}

-- ---- rounded and held, over h, the bits below the sign

-- n is a whole number nearest to a / b, and the even one where two are: |a / b - n| ≤ 1/2, taken times 2 b and without a difference
pub record Nearest (a b n : ℕ) : Type 0 where
  pub low : 2 * (n * b) ≤ 2 * a + b
  pub high : 2 * a ≤ 2 * (n * b) + b
  pub tie_above : 2 * (n * b) ≡ 2 * a + b → n % 2 ≡ 0
  pub tie_below : 2 * a ≡ 2 * (n * b) + b → n % 2 ≡ 0

-- n with its sign: -n where s is true
abbrev pub signed : Bool → ℕ → ℤ
signed s n = cond s (neg_ℤ (pos n)) (pos n)

-- how far numbers go below zero and above it: to -2^h and to 2^h - 1
abbrev pub limit : ℕ → Bool → ℕ
limit h s = cond s (2 ^ h) (2 ^ h - 1)

-- the nearest whole number, held to the limits; 0 for the NaN. `closest a b` is the n of `Nearest a b n`, which a law says
unfoldable pub rounded_to : ℕ → Float → ℤ
rounded_to h nan = pos 0
rounded_to h (inf s) = signed s (limit h s)
rounded_to h (fin s m e) = signed s (min (closest (m * up e) (down e)) (limit h s))

-- the nearest whole number is past a limit
unfoldable pub is_past : ℕ → Float → Bool
is_past h nan = false
is_past h (inf s) = true
is_past h (fin s m e) = ltb (limit h s) (closest (m * up e) (down e))

-- ---- a sample at w bits, 16 or 24

-- 2^(w - 16), and the sample times it, which may be an infinity
abbrev pub scale : ℕ → Float
scale w = fin false 1 (pos (w - 16))

abbrev pub scaled : ℕ → Float → Float
scaled w x = x ⊗ scale w

abbrev pub number_of : ℕ → Float → ℤ
number_of w x = rounded_to (w - 1) (scaled w x)

abbrev pub is_held : ℕ → Float → Bool
is_held w x = is_past (w - 1) (scaled w x)

-- a number in two's complement of w bits, and that of a sample
abbrev pub twos_complement : ℕ → ℤ → ℕ
twos_complement w (pos n) = n
twos_complement w (negsuc n) = 2 ^ w - suc n

abbrev pub word_of : ℕ → Float → ℕ
word_of w x = twos_complement w (number_of w x)

-- ---- the floats that the code tests with, for a width of h + 1 bits

-- the limits: -2^h and 2^h - 1
abbrev pub lowest : ℕ → Float
lowest h = fin true 1 (pos h)

abbrev pub highest : ℕ → Float
highest h = fin false (2 ^ h - 1) (pos 0)

-- the ends of what is not held: from -2^h - 1/2, which rounds to the even -2^h, up to and without 2^h - 1/2, which rounds to 2^h
abbrev pub low_end : ℕ → Float
low_end h = fin true (2 ^ suc h + 1) (negsuc 0)

abbrev pub high_end : ℕ → Float
high_end h = fin false (2 ^ suc h - 1) (negsuc 0)

-- factor, low and high are such floats, f and g, for h
pub record Floats (f g : ℕ → Float) (factor low high : Float) (h : ℕ) : Type 0 where
  pub from : 1 ≤ h
  pub upto : h ≤ 50
  pub scaling : factor ≡ scale (suc h)
  pub bottom : low ≡ f h
  pub top : high ≡ g h

abbrev pub Limits : Float → Float → Float → ℕ → Type 0
Limits = Floats lowest highest

abbrev pub Ends : Float → Float → Float → ℕ → Type 0
Ends = Floats low_end high_end

-- ---- computed

-- 32767.25 and 32767.5
pub not_held : is_held 16 (fin false 131069 (negsuc 1)) ≡ false
unfolding is_past mul
not_held = refl

pub held_half : is_held 16 (fin false 65535 (negsuc 0)) ≡ true
unfolding is_past mul
held_half = refl

-- -32768.5, a tie
pub not_held_below : is_held 16 (fin true 65537 (negsuc 0)) ≡ false
unfolding is_past mul
not_held_below = refl

-- 0.5, 1.5, -2.5 and 40000
pub half_to_even : number_of 16 (fin false 1 (negsuc 0)) ≡ pos 0
unfolding rounded_to mul
half_to_even = refl

pub three_halves : number_of 16 (fin false 3 (negsuc 0)) ≡ pos 2
unfolding rounded_to mul
three_halves = refl

pub below_zero : number_of 16 (fin true 5 (negsuc 0)) ≡ negsuc 1
unfolding rounded_to mul
below_zero = refl

pub too_large : number_of 16 (fin false 40000 (pos 0)) ≡ pos 32767
unfolding rounded_to mul
too_large = refl

-- 1.5 at 24 bits
pub three_halves_24 : number_of 24 (fin false 3 (negsuc 0)) ≡ pos 384
unfolding rounded_to mul
three_halves_24 = refl

-- an infinity below at 24 bits, in two's complement; the NaN
pub infinite : word_of 24 (inf true) ≡ 0x80_0000
unfolding rounded_to mul
infinite = refl

pub of_nan : word_of 24 nan ≡ 0
unfolding rounded_to mul
of_nan = refl

-- the largest f64 times 256 is an infinity, and held back
pub overflows : scaled 24 (of_bits binary64 0x7fef_ffff_ffff_ffff) ≡ inf false
unfolding of_bits mul
overflows = refl

pub overflow_held : is_held 24 (of_bits binary64 0x7fef_ffff_ffff_ffff) ≡ true
unfolding of_bits is_past mul
overflow_held = refl
