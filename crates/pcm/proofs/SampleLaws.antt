-- A sample held to the limits first rounds to the number that is rounded first and held then; and which samples are held back, by two comparisons. Assumes nothing.
use mathlib.Core.Path.{◌≡◌, refl, sym, ap, ◌∙◌}
use mathlib.Core.Bool.{Bool, true, false, not, ◌&&◌, ◌||◌, cond}
use Prim.Native.Nat.{ℕ, zero, suc, ◌+◌, ◌-◌, ◌*◌, ◌%◌, ◌^◌, ◌≤◌, ◌<◌}
use native.Mathlib.Nat.{mul-one, one-mul, le_trans, lt_of_le_of_lt, mul-le-mul_right, min-eq_left, min-eq_right, zero-min, pow-succ', mul-pos, lt_of_not-le}
use native.Mathlib.Decide.{dec_le}
use native.Mathlib.Omega.{arith}
use lib.Dec.{T, leb, ltb, eqb}
use lib.IntN.{ℤ, pos}
use lib.Pow.{pow_pos, pow_mono, pow-lt}
use lib.Ieee.{Float, nan, inf, fin, binary64, up, down, level, lt, le, eq, is_nan, add, to_bits, of_bits}
use lib.Ieee.Fits.{down_pos}
use lib.Ieee.Nearest.{closest}
use borrow.Author.Tests.{lt-ltb, le-ltb, le-leb, lt-leb, ltb-true, ltb-false, eqb-true, eqb-false, ne_eqb}
use Rattle.std.specs.Float.{float_clamp, ◌≤ᶠ◌}
use Rattle.number.specs.F64.{0f, ◌⊗◌}
use Rattle.pcm.specs.Sample.{rounded_to, is_past, is_held, twos_complement, word_of, scaled, signed, limit, lowest, highest, low_end, high_end, Limits, Ends}
use Rattle.pcm.proofs.NearestLaws.{closest_only, closest_at_most, closest_at_least, from_half, to_half, up_to_half, under_half}
use Rattle.pcm.proofs.RoundLaws.{sum_bits, low_bits}

-- ---- held to the limits

-- what the code makes of x: 0 for the NaN, and what is past a limit is the limit
abbrev pub clamped : ℕ → Float → Float
clamped h y = float_clamp y (lowest h) (highest h)

abbrev pub kept : ℕ → Float → Float
kept h x = clamped h (cond (is_nan x) 0f x)

-- y is a number within the limits, and rounds to the number of x
pub record Kept (h : ℕ) (x y : Float) : Type 0 where
  pub s : Bool
  pub m : ℕ
  pub e : ℤ
  pub is : y ≡ fin s m e
  pub within : m * up e ≤ limit h s * down e
  pub number : rounded_to h x ≡ signed s (closest (m * up e) (down e))

closest_whole : (n : ℕ) → closest n 1 ≡ n
closest_whole n = closest_only n 1 (omega arith) n (record { low = omega arith; high = omega arith; tie_above = λ t. absurd (omega arith); tie_below = λ t. absurd (omega arith) })

module _ (h : ℕ) where
  -- the two limits themselves
  at_lowest : (x : Float) → rounded_to h x ≡ signed true (limit h true) → Kept h x (lowest h)
  at_lowest x e =
      record { s = true; m = 1; e = pos h; is = refl; within = omega arith; number = e ∙ ap (signed true) (sym (ap (λ (n : ℕ). closest n 1) (one-mul (2 ^ h)) ∙ closest_whole (2 ^ h))) }

  at_highest : (x : Float) → rounded_to h x ≡ signed false (limit h false) → Kept h x (highest h)
  at_highest x e =
      record { s = false; m = 2 ^ h - 1; e = pos 0; is = refl; within = omega arith; number = e ∙ ap (signed false) (sym (ap (λ (n : ℕ). closest n 1) (mul-one (2 ^ h - 1)) ∙ closest_whole (2 ^ h - 1))) }

  module _ (s : Bool) (m : ℕ) (e : ℤ) where
    -- within its limit a number is rounded, and past it the limit is taken
    inside : m * up e ≤ limit h s * down e → Kept h (fin s m e) (fin s m e)
    unfolding rounded_to
    inside l =
        record { s = s; m = m; e = e; is = refl; within = l; number = ap (signed s) (min-eq_left (closest_at_most (m * up e) (down e) (down_pos e) (limit h s) l)) }

    outside : limit h s * down e ≤ m * up e → rounded_to h (fin s m e) ≡ signed s (limit h s)
    unfolding rounded_to
    outside l = ap (signed s) (min-eq_right (closest_at_least (m * up e) (down e) (down_pos e) (limit h s) l))

  -- by the answer t of the comparison with the limit
  from_above : (m : ℕ) (e : ℤ) (t : Bool) → ltb ((2 ^ h - 1) * 1 * down e) (m * up e * 1) ≡ t → Kept h (fin false m e) (cond t (highest h) (fin false m e))
  from_above m e true c = at_highest (fin false m e) (outside false m e (omega (arith, ltb-true ((2 ^ h - 1) * 1 * down e) (m * up e * 1) c)))
  from_above m e false c = inside false m e (omega (arith, ltb-false ((2 ^ h - 1) * 1 * down e) (m * up e * 1) c))

  from_below : (m : ℕ) (e : ℤ) (t : Bool) → ltb (1 * 2 ^ h * down e) (m * up e * 1) ≡ t → Kept h (fin true m e) (cond t (lowest h) (cond (lt (highest h) (fin true m e)) (highest h) (fin true m e)))
  unfolding lt
  from_below m e true c = at_lowest (fin true m e) (outside true m e (omega (arith, ltb-true (1 * 2 ^ h * down e) (m * up e * 1) c)))
  from_below m e false c = inside true m e (omega (arith, ltb-false (1 * 2 ^ h * down e) (m * up e * 1) c))

  zero_number : rounded_to h nan ≡ rounded_to h (fin false 0 (pos 0))
  unfolding rounded_to
  zero_number = ap pos (sym (zero-min (2 ^ h - 1)))

  pub kept_is : (x : Float) → Kept h x (kept h x)
  unfolding lt is_nan rounded_to of_bits
  kept_is nan =
      let k = from_above 0 (pos 0) _ refl in
      record { s = k.s; m = k.m; e = k.e; is = k.is; within = k.within; number = zero_number ∙ k.number }
  kept_is (inf true) = at_lowest (inf true) refl
  kept_is (inf false) = at_highest (inf false) refl
  kept_is (fin true m e) = from_below m e _ refl
  kept_is (fin false m e) = from_above m e _ refl

-- ---- the bits of the sum

-- 3 * 2^51, as the code writes it
abbrev pub magic : Float
magic = of_bits binary64 0x4338_0000_0000_0000

module _ (h : ℕ) (upto : h ≤ 50) (x : Float) where
  limit_at_most : (s : Bool) → limit h s ≤ 2 ^ h
  limit_at_most true = omega arith
  limit_at_most false = omega arith

  bits_of_kept : (y : Float) → Kept h x y → T (not (is_nan (add binary64 y magic))) × (to_bits binary64 (add binary64 y magic) % 2 ^ suc h ≡ twos_complement (suc h) (rounded_to h x))
  unfolding of_bits
  bits_of_kept y k =
      let l = limit_at_most k.s in
      let p : 2 ^ h ≤ 2 ^ 50 = pow_mono upto in
      let d : limit h k.s * down k.e ≤ 2 ^ 50 * down k.e = mul-le-mul_right (down k.e) (le_trans l p) in
      let b = sum_bits k.m k.e (le_trans k.within d) k.s in
      let n = closest_at_most (k.m * up k.e) (down k.e) (down_pos k.e) (limit h k.s) k.within in
      rw (k.is, k.number) (b.0, ap (λ (z : ℕ). z % 2 ^ suc h) b.1 ∙ low_bits h upto k.s _ (lt_of_le_of_lt (le_trans n l) (pow-lt (omega arith))))

  pub word_bits : T (not (is_nan (add binary64 (kept h x) magic))) × (to_bits binary64 (add binary64 (kept h x) magic) % 2 ^ suc h ≡ twos_complement (suc h) (rounded_to h x))
  word_bits = bits_of_kept (kept h x) (kept_is h x)

-- the steps of the code: a is x times the factor, or 0, and r is a within low and high
pub word_of_lem : (x factor low high a r : Float) (h : ℕ) → Limits factor low high h → a ≡ cond (is_nan (x ⊗ factor)) 0f (x ⊗ factor) → r ≡ float_clamp a low high
    → T (not (is_nan (add binary64 r magic))) × (to_bits binary64 (add binary64 r magic) % 2 ^ suc h ≡ word_of (suc h) x)
word_of_lem x factor low high a r h l ea er =
    let e : r ≡ kept h (scaled (suc h) x) = rw (er, ea, l.scaling, l.bottom, l.top) refl in
    let below : suc h - 1 ≡ h = omega arith in
    rw (e, below) (word_bits h l.upto (scaled (suc h) x))

-- the limits are in order
pub limits_ordered : (factor low high : Float) (h : ℕ) → Limits factor low high h → low ≤ᶠ high
unfolding le lt eq
limits_ordered factor low high h l = let p = pow_pos h in rw (l.bottom, l.top, lt-ltb 0 (1 * 2 ^ h * 1 + (2 ^ h - 1) * 1 * 1) (omega arith)) tt

-- ---- held back

at_or_past : (a b : ℕ) → (ltb a b || (eqb a b && true)) || false ≡ leb a b
at_or_past a b = go (ltb a b) (eqb a b) refl refl
  where
    go : (t u : Bool) → ltb a b ≡ t → eqb a b ≡ u → (t || (u && true)) || false ≡ leb a b
    go true u p q = sym (le-leb a b (omega (arith, ltb-true a b p)))
    go false true p q = sym (le-leb a b (omega (arith, eqb-true a b q)))
    go false false p q = sym (lt-leb a b (let n = eqb-false a b q in omega (arith, ltb-false a b p)))

-- with an even p, the comparison with p - 1/2 and that with p + 1/2
module _ (a b : ℕ) (B : 0 < b) (p q : ℕ) (even : p % 2 ≡ 0) (twice : q ≡ 2 * p) (P : 0 < p) where
  low_end_lem : (q - 1) * b + b ≡ 2 * (p * b)
  low_end_lem = let e : q - 1 + 1 ≡ 2 * p = omega arith in omega (arith, ap (λ (z : ℕ). z * b) e)

  past_high : leb ((q - 1) * 1 * b) (a * 2) ≡ ltb (p - 1) (closest a b)
  past_high = go (dec_le p (closest a b))
    where
      go : Dec (p ≤ closest a b) → leb ((q - 1) * 1 * b) (a * 2) ≡ ltb (p - 1) (closest a b)
      go (yes y) = le-leb ((q - 1) * 1 * b) (a * 2) (omega (arith, low_end_lem, to_half a b B p even y)) ∙ sym (lt-ltb (p - 1) (closest a b) (omega arith))
      go (no n) = lt-leb ((q - 1) * 1 * b) (a * 2) (lt_of_not-le (λ l. n (from_half a b B p even (omega (arith, low_end_lem))))) ∙ sym (le-ltb (p - 1) (closest a b) (omega arith))

  high_end_lem : (q + 1) * b ≡ 2 * (p * b) + b
  high_end_lem = omega (arith, ap (λ (z : ℕ). z * b) twice)

  past_low : ltb ((q + 1) * 1 * b) (a * 2) ≡ ltb p (closest a b)
  past_low = go (dec_le (closest a b) p)
    where
      go : Dec (closest a b ≤ p) → ltb ((q + 1) * 1 * b) (a * 2) ≡ ltb p (closest a b)
      go (yes y) = le-ltb ((q + 1) * 1 * b) (a * 2) (omega (arith, high_end_lem, under_half a b B p even y)) ∙ sym (le-ltb p (closest a b) y)
      go (no n) = lt-ltb ((q + 1) * 1 * b) (a * 2) (lt_of_not-le (λ l. n (up_to_half a b B p even (omega (arith, high_end_lem))))) ∙ sym (lt-ltb p (closest a b) (omega arith))

and_false : (t : Bool) → t && false ≡ false
and_false true = refl
and_false false = refl

module _ (h : ℕ) (from : 1 ≤ h) where
  even : (h : ℕ) → 1 ≤ h → 2 ^ h % 2 ≡ 0
  even zero l = absurd (omega arith)
  even (suc k) l = rw (pow-succ' 2 k) (omega arith)

  pub held_is : (x : Float) → le (high_end h) x || lt x (low_end h) ≡ is_past h x
  unfolding le lt eq is_past
  held_is nan = refl
  held_is (inf true) = refl
  held_is (inf false) = refl
  held_is (fin true m e) =
      rw (never ((2 ^ suc h - 1) * 1 * down e) (m * up e * 2) (mul-pos (mul-pos (omega (arith, pow-lt {i = 0} {j = suc h} (omega arith))) (omega arith)) (down_pos e)))
      (past_low (m * up e) (down e) (down_pos e) (2 ^ h) (2 ^ suc h) (even h from) (pow-succ' 2 h) (pow_pos h))
    where
      -- a number above zero is not one below zero
      never : (a b : ℕ) → 0 < a → level false a true b ≡ false
      never a b l = rw (ne_eqb a 0 (λ z. omega arith)) (and_false (eqb a b))
  held_is (fin false m e) =
      at_or_past ((2 ^ suc h - 1) * 1 * down e) (m * up e * 2) ∙ past_high (m * up e) (down e) (down_pos e) (2 ^ h) (2 ^ suc h) (even h from) (pow-succ' 2 h) (pow_pos h)

-- as the code has it
pub held_of : (x factor low high : Float) (h : ℕ) → Ends factor low high h → le high (x ⊗ factor) || lt (x ⊗ factor) low ≡ is_held (suc h) x
held_of x factor low high h l = let below : suc h - 1 ≡ h = omega arith in rw (l.scaling, l.bottom, l.top, below) (held_is h l.from (scaled (suc h) x))
