-- What it says of a base and an s that they are inside, and powers of fractions. Assumes nothing.
use mathlib.Core.Path.{◌≡◌, refl, sym, ap, ◌∙◌, subst}
use mathlib.Core.Bool.{true, false, ◌&&◌}
use Prim.Native.Nat.{ℕ, zero, suc, ◌*◌, ◌^◌, ◌≤◌}
use native.Mathlib.Nat.{le_trans, le_of_eq, mul_comm, mul-one, one-mul, mul-mul-mul_comm, mul-le-mul_left, pow-zero, pow-suc, pow-succ', pow-le-pow_left, pow-le-pow_right}
use native.Mathlib.Omega.{arith}
use lib.Dec.{T, leb, leb→le}
use lib.IntN.{pos, negsuc}
use lib.Pow.{pow_pos}
use lib.Ieee.{Float, fin, of_bits, le}
use lib.Ieee.Fits.{and_l, and_r}
use lib.Ieee.Positive.{num, den, positive, le→cross, between}
use Rattle.number.specs.Range.{is_within}
use Rattle.elementary.specs.Exact.{power_inside}
use Rattle.power.proofs.Products.{Central}

pub record Base (a : Float) (s : ℕ) : Type 0 where
  pub above : T (positive a)
  pub least : den a ≤ num a * 2 ^ 120
  pub most : num a ≤ den a * 2 ^ 120
  pub from : 1 ≤ s
  pub upto : s ≤ 8

-- 2 ^ -120 and 2 ^ 120
abbrev low : Float
low = fin false 1 (negsuc 119)

abbrev high : Float
high = fin false 1 (pos 120)

pub base : (a : Float) (s : ℕ) → T (power_inside a s) → Base a s
unfolding of_bits
base a s h =
    record {
      above = p;
      least = le_trans (le_of_eq (sym (one-mul (den a)))) (le→cross low a tt p l);
      most = le_trans (le_of_eq (sym (mul-one (num a)))) (le_trans (le→cross a high p tt u) (le_of_eq (mul_comm (2 ^ 120) (den a))));
      from = leb→le 1 s (and_r (is_within a low high) (leb 1 s) first);
      upto = leb→le s 8 (and_r (is_within a low high && leb 1 s) (leb s 8) h);
    }
  where
    first : T (is_within a low high && leb 1 s)
    first = and_l (is_within a low high && leb 1 s) (leb s 8) h

    range : T (is_within a low high)
    range = and_l (is_within a low high) (leb 1 s) first

    l : T (le low a)
    l = and_l (le low a) (le a high) range

    u : T (le a high)
    u = and_r (le low a) (le a high) range

    p : T (positive a)
    p = between low a high tt tt l u

pub base_of : (a : Float) (s : ℕ) → power_inside a s ≡ true → Base a s
base_of a s i = base a s (subst T (sym i) tt)

-- ---- powers
pub mul_pow : (a b n : ℕ) → (a * b) ^ n ≡ a ^ n * b ^ n
mul_pow a b zero = rw (pow-zero (a * b), pow-zero a, pow-zero b) refl
mul_pow a b (suc n) = rw (pow-suc (a * b) n, pow-suc a n, pow-suc b n, mul_pow a b n) (mul-mul-mul_comm (a ^ n) (b ^ n) a b)

-- n / d at most 2 ^ 120, and eight of it
limit : (n d i : ℕ) → i ≤ 7 → n ≤ d * 2 ^ 120 → n * n ^ i ≤ d * d ^ i * 2 ^ 960
limit n d i I h =
    le_trans (le_of_eq (sym (pow-succ' n i)))
    (le_trans (pow-le-pow_left h (suc i))
    (le_trans (le_of_eq (mul_pow d (2 ^ 120) (suc i) ∙ ap (λ (z : ℕ). z * (2 ^ 120) ^ suc i) (pow-succ' d i))) (mul-le-mul_left (d * d ^ i) (pow-le-pow_right {n = 2 ^ 120} (pow_pos 120) {i = suc i} {j = 8} (omega arith)))))

pub base_central : (a : Float) (s i : ℕ) → Base a s → i ≤ 7 → Central (num a * num a ^ i) (den a * den a ^ i)
base_central a s i b I = record { least = limit (den a) (num a) i I b.least; most = limit (num a) (den a) i I b.most }
