-- A try's s is from 2 ^ -29 to 2, so the logarithm is defined at it. Rounding keeps the order, so of all sizes of 2 * (r / 32767) - 1 the least ones are at the two r
-- nearest to a half of 32767, 16383 and 16384: there they are above 2 ^ -15. Assumes nothing.
use mathlib.Core.Path.{◌≡◌, sym, ap, ◌∙◌, subst}
use mathlib.Core.Bool.{true, false, true≢false}
use Prim.Native.Nat.{ℕ, zero, suc, ◌*◌, ◌/◌, ◌^◌, ◌≤◌, ◌<◌}
use native.Mathlib.Nat.{le_trans, lt_of_not-le, mod-lt}
use native.Mathlib.Decide.{dec_le}
use native.Mathlib.Omega.{arith}
use lib.IntN.{pos}
use lib.Dec.{T, lit<, lit≤}
use lib.Ieee.{Float, nan, inf, fin, binary64, up, down, of_bits, of_int, round, le, add, sub, mul, div, neg}
use lib.Ieee.Back.{round_whole}
use lib.Ieee.Exact.{HasValue}
use lib.Ieee.Fits.{down_pos, and_i}
use lib.Ieee.Order.{round_mono}
use lib.Ieee.Positive.{positive, le_trans_positive}
use lib.Ieee.Scale.{round_same}
use Rattle.number.specs.F64.{◌⊕◌, ◌⊖◌, ◌⊗◌, ◌⊘◌, −◌, 1f, 2f}
use Rattle.number.specs.Range.{finite}
use Rattle.elementary.specs.Exact.{ln_inside}
use Rattle.elementary.proofs.Signs.{neg_neg, mul_neg_left, mul_neg_right}
use Rattle.noise.specs.Draw.{32767f, r_of, draw_of, value_of, try_of}
use Rattle.noise.proofs.Between.{Between, within, wider, mul_between, add_between, less_one, one_less, below_one}

-- ---- the value of r
abbrev value : ℕ → Float
value r = of_int binary64 (pos r) ⊘ 32767f

-- a whole number over 32767 is the exact quotient, rounded
over : (x : Float) (r : ℕ) → HasValue x false r 1 → x ⊘ 32767f ≡ round binary64 false r 32767
unfolding div of_bits
over nan r v = absurd v
over (inf s) r v = absurd v
over (fin true m e) r v = absurd (true≢false v.0)
over (fin false m e) r v = round_same binary64 false (m * up e * 1) (32767 * 1 * down e) r 32767 (omega (arith, down_pos e)) (lit< tt) (omega (arith, v.1))

-- so is the value of r
value_is : (r : ℕ) → r < 32768 → value r ≡ round binary64 false r 32767
unfolding of_int
value_is r h = over (round binary64 false r 1) r (round_whole binary64 false r (le_trans (omega arith) (lit≤ {m = 32768} {n = 2 ^ 53} tt)))

-- and it grows with r
value_mono : (i r : ℕ) → i ≤ r → r < 32768 → T (le (value i) (value r))
value_mono i r h k = rw (value_is i (omega arith), value_is r k) (round_mono binary64 i 32767 r 32767 (lit< tt) (lit< tt) (omega arith))

-- its double, from that of i to that of j
double : (i r j : ℕ) → T (positive (value i)) → T (positive (value j)) → T (positive (2f ⊗ value i)) → T (positive (2f ⊗ value j)) → i ≤ r → r ≤ j → j < 32768 → Between (2f ⊗ value i) (2f ⊗ value r) (2f ⊗ value j)
unfolding of_bits le
double i r j p q p' q' h k l =
    mul_between (record { first = tt; own = tt; last = tt; least = tt; most = tt }) (within p q (value_mono i r h (omega arith)) (value_mono r j k l)) p' q'

-- ---- 2 * value - 1, and its square
abbrev part : ℕ → Float
part r = 2f ⊗ value r ⊖ 1f

unfoldable 2^-15f : Float
2^-15f = of_bits binary64 0x3f00_0000_0000_0000

-- for a value above a half it is from 2 ^ -15 to 1
above : (r : ℕ) → 16384 ≤ r → r < 32768 → Between 2^-15f (part r) 1f
unfolding 2^-15f of_bits of_int div mul sub le
above r l h = wider 2^-15f 1f tt tt tt tt (less_one (double 16384 r 32767 tt tt tt tt l (omega arith) (lit< tt)) tt tt tt)

-- for a value below a half it is so with its sign turned
below : (r : ℕ) → 1 ≤ r → r < 16384 → Between 2^-15f (1f ⊖ 2f ⊗ value r) 1f × (part r ≡ − (1f ⊖ 2f ⊗ value r))
unfolding 2^-15f of_bits of_int div mul sub le
below r l h =
    let d = double 1 r 16383 tt tt tt tt l (omega arith) (lit< tt) in
    (wider 2^-15f 1f tt tt tt tt (one_less d tt tt tt), below_one d (lit< tt))

-- its square is from that of 2 ^ -15 to that of 1, at r = 0 too
square : (r : ℕ) → r < 32768 → Between (2^-15f ⊗ 2^-15f) (part r ⊗ part r) (1f ⊗ 1f)
unfolding 2^-15f of_bits of_int div mul sub le
square zero h = record { first = tt; own = tt; last = tt; least = tt; most = tt }
square (suc r) h = go (dec_le 16384 (suc r))
  where
    squared : {x : Float} → Between 2^-15f x 1f → Between (2^-15f ⊗ 2^-15f) (x ⊗ x) (1f ⊗ 1f)
    squared x = mul_between x x tt tt

    like : (x : Float) → x ⊗ x ≡ (− x) ⊗ (− x)
    like x = sym (mul_neg_left x (− x) ∙ ap neg (mul_neg_right x x) ∙ neg_neg (x ⊗ x))

    go : Dec (16384 ≤ suc r) → Between (2^-15f ⊗ 2^-15f) (part (suc r) ⊗ part (suc r)) (1f ⊗ 1f)
    go (yes l) = squared (above (suc r) l h)
    go (no n) =
        let b = below (suc r) (omega arith) (lt_of_not-le n) in
        let z = 1f ⊖ 2f ⊗ value (suc r) in
        subst (λ (x : Float). Between (2^-15f ⊗ 2^-15f) (x ⊗ x) (1f ⊗ 1f)) (sym b.1) (subst (λ (x : Float). Between (2^-15f ⊗ 2^-15f) x (1f ⊗ 1f)) (like z) (squared b.0))

-- ---- the sum of two such squares
abbrev pub 2^-29f : Float
2^-29f = of_bits binary64 0x3e20_0000_0000_0000

-- it is from 2 ^ -29 to 2
sum_between : (r t : ℕ) → r < 32768 → t < 32768 → Between 2^-29f (part r ⊗ part r ⊕ part t ⊗ part t) 2f
unfolding 2^-15f of_bits mul add le
sum_between r t h k = wider 2^-29f 2f tt tt tt tt (add_between (square r h) (square t k) tt tt)

-- such a sum is s
s_between : (next : ℕ) → Between 2^-29f (try_of next).s 2f
unfolding try_of value_of
s_between next = let first = draw_of next in sum_between (r_of first) (r_of (draw_of first)) (mod-lt (first / 65536) (lit< tt)) (mod-lt (draw_of first / 65536) (lit< tt))

-- every try's s is at least 2 ^ -29
pub s_least : (next : ℕ) → T (le 2^-29f (try_of next).s)
s_least next = (s_between next).least

-- a number from 2 ^ -29 up is inside ln
inside : (x : Float) → T (le 2^-29f x) → T (positive x) → T (ln_inside x)
unfolding of_bits le
inside x l p = and_i (le least x) (finite x) (le_trans_positive least 2^-29f x tt tt p tt l) (go x p)
  where
    least : Float
    least = of_bits binary64 0x10_0000_0000_0000

    go : (x : Float) → T (positive x) → T (finite x)
    go nan p = p
    go (inf s) p = p
    go (fin s m e) p = tt

-- so every try's s is inside ln
pub s_inside : (next : ℕ) → T (ln_inside (try_of next).s)
s_inside next = inside (try_of next).s (s_least next) (s_between next).own
