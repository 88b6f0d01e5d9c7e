-- The definitions at computed points. The numbers are the Rust's. Assumes nothing.
use Rattle.std.specs.Prelude.{◌≡◌, refl, [], ◌∷◌, true, false, ℕ, pos, negsuc, Float, None, Some}
use Rattle.std.specs.Float.{fin, binary64}
use Rattle.std.specs.Float.Ieee.{of_bits, to_bits, of_int, round, add, sub, mul, div, neg, lt, le, eq}
use Rattle.number.specs.F64.{◌⊕◌, ◌⊖◌, ◌⊗◌, ◌⊘◌, ½f, 1f, 2f}
use Rattle.history.specs.Steps.{Step, dry, one, steps}
use Rattle.root.specs.Root.{floor_root, nearest_root, units_of, root_of_units, root_of}
use Rattle.elementary.specs.Series.{odd_number}
use Rattle.elementary.specs.Horner.{horner}
use Rattle.elementary.specs.Band.{number_of}
use Rattle.logarithm.specs.Ln.{coefficient, sum_of, near_one, field, part, turns, of_pattern, ln_of}
use Rattle.noise.specs.declared.Random.{Random}
use Rattle.noise.specs.Draw.{draw_of, r_of, 32767f, value_of, try_of, accepted}
use Rattle.noise.specs.Noise.{found_of, multiplier_of, pair_of, filling_of, noise_of, fresh_random}

-- ---- draws

-- document 01, item 6: the first four
pub first_draws : r_of (draw_of 1) ∷ r_of (draw_of (draw_of 1)) ∷ r_of (draw_of (draw_of (draw_of 1))) ∷ r_of (draw_of (draw_of (draw_of (draw_of 1)))) ∷ []
    ≡ 16838 ∷ 5758 ∷ 10113 ∷ 17515 ∷ []
first_draws = refl

-- the fourth has wrapped
pub fourth_state : draw_of (draw_of (draw_of (draw_of 1))) ≡ 14214738562022873917
fourth_state = refl

-- ---- tries

-- the first, from 1, is accepted: its s is 0x1.af7f9917a6604p-2
pub first_try : (try_of 1).s ≡ fin false 0x6bdfe645e9981 (negsuc 51)
unfolding try_of value_of of_bits of_int div mul sub add neg
first_try = refl

pub first_accepted : accepted (try_of 1) ≡ true
unfolding try_of value_of of_bits of_int div mul sub add neg lt
first_accepted = refl

-- the third is not: its s is above 1
pub third_rejected : accepted (try_of 14214738562022873917) ≡ false
unfolding try_of value_of of_bits of_int div mul sub add neg lt
third_rejected = refl

-- the least s of all: both numbers 16383 or 16384, each one 0x1.00020004p-15 in size
pub least_s : let x = 2f ⊗ (of_int binary64 (pos 16383) ⊘ 32767f) ⊖ 1f in
    let y = 2f ⊗ (of_int binary64 (pos 16384) ⊘ 32767f) ⊖ 1f in
    x ⊗ x ⊕ y ⊗ y ≡ fin false 0x10004000c001 (negsuc 72)
unfolding of_bits of_int div mul sub add neg
least_s = refl

-- ---- pairs: from 12 on the third try is the first accepted

pub dry_after_two : found_of 2 12 ≡ None
unfolding found_of try_of value_of of_bits of_int div mul sub add neg lt
dry_after_two = refl

pub found_third : found_of 3 12 ≡ Some (try_of (try_of (try_of 12).next).next)
unfolding found_of try_of value_of of_bits of_int div mul sub add neg lt
found_third = refl

-- the first pair of a fresh noise, and `next` after its one try
pub first_pair : pair_of 4096 1 ≡ one (fin false 0x7310881e7efed (negsuc 54) ∷ fin true 0x15040f643ff275 (negsuc 51) ∷ []) 1217759518843121895
unfolding pair_of found_of multiplier_of number_of try_of value_of root_of root_of_units units_of nearest_root floor_root ln_of of_pattern part field turns near_one sum_of horner coefficient odd_number round of_bits to_bits of_int add sub mul div neg eq le lt
first_pair = refl

-- ---- values, with one try for a pair: the third pair from 1 on is dry, so the filling is, and so is a fresh noise
pub dry_filling : filling_of 1 1 ≡ dry
unfolding filling_of steps pair_of found_of try_of value_of of_bits of_int div mul sub add neg lt
dry_filling = refl

pub dry_noise : noise_of 1 fresh_random ≡ dry
unfolding noise_of filling_of steps pair_of found_of try_of value_of of_bits of_int div mul sub add neg lt
dry_noise = refl

-- the first value of a fresh noise comes after all 32 pairs: this is `next` after them
abbrev next_after : Step Random Float → ℕ
next_after dry = 0
next_after (one value random) = random.next

pub after_a_filling : next_after (noise_of 4096 fresh_random) ≡ 2583194561118048443
unfolding noise_of filling_of steps pair_of found_of try_of value_of of_bits of_int div mul sub add neg lt
after_a_filling = refl

-- while values are left, none is drawn
pub value_left : noise_of 0 (record { next = 1; used = 1; queue = 1f ∷ ½f ∷ [] }) ≡ one ½f (record { next = 1; used = 2; queue = 1f ∷ ½f ∷ [] })
unfolding noise_of
value_left = refl
