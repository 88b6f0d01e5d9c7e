-- The logarithm as it is computed at single points: bit patterns in, numbers out. Assumes nothing.
use Rattle.std.specs.Prelude.{◌≡◌, refl, true, false, pos, negsuc, Ok, Err}
use Rattle.std.specs.Float.{fin, binary64}
use Rattle.std.specs.Float.Ieee.{of_bits, to_bits, of_int, round, add, sub, mul, div, neg, eq, le}
use Rattle.elementary.specs.Series.{odd_number}
use Rattle.elementary.specs.Horner.{horner}
use Rattle.logarithm.specs.Ln.{coefficient, sum_of, near_one, field, part, turns, of_pattern, ln_of}

-- 1: +0
pub ln_one : ln_of (of_bits binary64 0x3ff0_0000_0000_0000) ≡ Ok (fin false 0 (pos 0))
unfolding ln_of of_pattern part field turns near_one sum_of horner coefficient odd_number round of_bits to_bits of_int add sub mul div neg eq le
ln_one = refl

-- the next float after 1: near the difference, as it should be
pub ln_above_one : ln_of (of_bits binary64 0x3ff0_0000_0000_0001) ≡ Ok (fin false 1 (negsuc 51))
unfolding ln_of of_pattern part field turns near_one sum_of horner coefficient odd_number round of_bits to_bits of_int add sub mul div neg eq le
ln_above_one = refl

-- the float before 1
pub ln_below_one : ln_of (of_bits binary64 0x3fef_ffff_ffff_ffff) ≡ Ok (fin true 1 (negsuc 52))
unfolding ln_of of_pattern part field turns near_one sum_of horner coefficient odd_number round of_bits to_bits of_int add sub mul div neg eq le
ln_below_one = refl

-- 2, whose logarithm is the constant itself
pub ln_two : ln_of (of_bits binary64 0x4000_0000_0000_0000) ≡ Ok (fin false 6243314768165359 (negsuc 52))
unfolding ln_of of_pattern part field turns near_one sum_of horner coefficient odd_number round of_bits to_bits of_int add sub mul div neg eq le
ln_two = refl

-- 1/2
pub ln_half : ln_of (of_bits binary64 0x3fe0_0000_0000_0000) ≡ Ok (fin true 6243314768165359 (negsuc 52))
unfolding ln_of of_pattern part field turns near_one sum_of horner coefficient odd_number round of_bits to_bits of_int add sub mul div neg eq le
ln_half = refl

-- 3/4, the least m
pub ln_three_quarters : ln_of (of_bits binary64 0x3fe8_0000_0000_0000) ≡ Ok (fin true 2591209748590025 (negsuc 52))
unfolding ln_of of_pattern part field turns near_one sum_of horner coefficient odd_number round of_bits to_bits of_int add sub mul div neg eq le
ln_three_quarters = refl

-- the float before it, where k is -1 and m near 3/2
pub ln_below_three_quarters : ln_of (of_bits binary64 0x3fe7_ffff_ffff_ffff) ≡ Ok (fin true 2591209748590027 (negsuc 52))
unfolding ln_of of_pattern part field turns near_one sum_of horner coefficient odd_number round of_bits to_bits of_int add sub mul div neg eq le
ln_below_three_quarters = refl

-- 3/2, where k is 1 and m is 3/4
pub ln_three_halves : ln_of (of_bits binary64 0x3ff8_0000_0000_0000) ≡ Ok (fin false 1826052509787667 (negsuc 51))
unfolding ln_of of_pattern part field turns near_one sum_of horner coefficient odd_number round of_bits to_bits of_int add sub mul div neg eq le
ln_three_halves = refl

-- the float before it, the greatest m
pub ln_below_three_halves : ln_of (of_bits binary64 0x3ff7_ffff_ffff_ffff) ≡ Ok (fin false 913026254893833 (negsuc 50))
unfolding ln_of of_pattern part field turns near_one sum_of horner coefficient odd_number round of_bits to_bits of_int add sub mul div neg eq le
ln_below_three_halves = refl

-- the float nearest to 1/10
pub ln_tenth : ln_of (of_bits binary64 0x3fb9_9999_9999_999a) ≡ Ok (fin true 5184960683398421 (negsuc 50))
unfolding ln_of of_pattern part field turns near_one sum_of horner coefficient odd_number round of_bits to_bits of_int add sub mul div neg eq le
ln_tenth = refl

-- the least normal, 2 ^ -1022
pub ln_least : ln_of (of_bits binary64 0x10_0000_0000_0000) ≡ Ok (fin true 3115560397004393 (negsuc 41))
unfolding ln_of of_pattern part field turns near_one sum_of horner coefficient odd_number round of_bits to_bits of_int add sub mul div neg eq le
ln_least = refl

-- the largest float
pub ln_largest : ln_of (of_bits binary64 0x7fef_ffff_ffff_ffff) ≡ Ok (fin false 6243314768165359 (negsuc 42))
unfolding ln_of of_pattern part field turns near_one sum_of horner coefficient odd_number round of_bits to_bits of_int add sub mul div neg eq le
ln_largest = refl

-- 0
pub ln_zero : ln_of (of_bits binary64 0x0) ≡ Err (record {})
unfolding ln_of of_pattern part field turns near_one sum_of horner coefficient odd_number round of_bits to_bits of_int add sub mul div neg eq le
ln_zero = refl

-- -1
pub ln_minus_one : ln_of (of_bits binary64 0xbff0_0000_0000_0000) ≡ Err (record {})
unfolding ln_of of_pattern part field turns near_one sum_of horner coefficient odd_number round of_bits to_bits of_int add sub mul div neg eq le
ln_minus_one = refl

-- the largest subnormal
pub ln_subnormal : ln_of (of_bits binary64 0xf_ffff_ffff_ffff) ≡ Err (record {})
unfolding ln_of of_pattern part field turns near_one sum_of horner coefficient odd_number round of_bits to_bits of_int add sub mul div neg eq le
ln_subnormal = refl

-- the infinity
pub ln_infinity : ln_of (of_bits binary64 0x7ff0_0000_0000_0000) ≡ Err (record {})
unfolding ln_of of_pattern part field turns near_one sum_of horner coefficient odd_number round of_bits to_bits of_int add sub mul div neg eq le
ln_infinity = refl

-- a NaN
pub ln_nan : ln_of (of_bits binary64 0x7ff8_0000_0000_0000) ≡ Err (record {})
unfolding ln_of of_pattern part field turns near_one sum_of horner coefficient odd_number round of_bits to_bits of_int add sub mul div neg eq le
ln_nan = refl
