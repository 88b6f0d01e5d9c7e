-- Bytes and counts of many samples: parts join, and the turns of the loops that make them. Over the width and the function. Assumes nothing.
use mathlib.Core.Path.{◌≡◌, refl, sym, ap, ◌∙◌}
use mathlib.Core.Bool.{Bool, true, false, cond}
use mathlib.Core.List.{List, [], ◌∷◌, ◌++◌, append_assoc}
use Prim.Native.Nat.{ℕ, zero, suc, ◌+◌, ◌*◌, ◌/◌, ◌%◌, ◌^◌, ◌≤◌, ◌<◌}
use native.Mathlib.Nat.{mul-zero, mul-le-mul_left}
use Rattle.std.specs.Int.{w64, from_bool, byte_at, bytes_low_first, to_le_bytes}
use Rattle.std.proofs.Math.Nat.{div-one, div-div-eq-div-mul, pow-suc}
use Rattle.std.proofs.lemmas.Nat.{mod-pow-add}
use native.Mathlib.Omega.{arith}
use lib.ListN.{length, drop, take, length-append}
use lib.Seq.{sets, length-sets}
use lib.Ieee.{Float, nan}
use Rattle.number.specs.F64.{◌‼◌}
use Rattle.number.specs.Bytes.{bytes_of}
use Rattle.number.proofs.ByteLaws.{length_bytes}
use Rattle.number.proofs.Lists.{left_next, left_none, put_row, sets_append, sets_all, put_row_sets}
use Rattle.pcm.specs.Samples.{bytes_of_all, count}

-- ---- parts join

module _ (k : ℕ) (f : Float → ℕ) where
  pub bytes_join : (l r : List Float) → bytes_of_all k f (l ++ r) ≡ bytes_of_all k f l ++ bytes_of_all k f r
  unfolding bytes_of_all
  bytes_join [] r = refl
  bytes_join (x ∷ l) r = ap (λ (b : List ℕ). bytes_of k (f x) ++ b) (bytes_join l r) ∙ sym (append_assoc (bytes_of k (f x)) (bytes_of_all k f l) (bytes_of_all k f r))

  pub length_bytes_of : (l : List Float) → length (bytes_of_all k f l) ≡ k * length l
  unfolding bytes_of_all
  length_bytes_of [] = omega arith
  length_bytes_of (x ∷ l) = length-append (bytes_of k (f x)) (bytes_of_all k f l) ∙ rw (length_bytes k (f x), length_bytes_of l) (omega arith)

pub count_join : (t : Float → Bool) (l r : List Float) → count t (l ++ r) ≡ count t l + count t r
unfolding count
count_join t [] r = omega arith
count_join t (x ∷ l) r = rw (count_join t l r) (omega arith)

-- ---- the loop of k bytes a sample: f makes the number of a sample, and t says whether it is held back

-- At the sample i, with `held` of those before it held back: the bytes of the rest are still to be stored, and the rest to be counted.
pub record Made (k : ℕ) (f : Float → ℕ) (t : Float → Bool) (samples : List Float) (out : List ℕ) (held i : ℕ) : Type 0 where
  pub upto : i ≤ length samples
  pub room : length out ≡ k * length samples
  pub few : held ≤ i
  pub counted : held + count t (drop i samples) ≡ count t samples
  pub stored : sets out (k * i) (bytes_of_all k f (drop i samples)) ≡ bytes_of_all k f samples

module _ (k : ℕ) (f : Float → ℕ) (t : Float → Bool) (samples : List Float) (out : List ℕ) where
  pub made_start : length out ≡ k * length samples → Made k f t samples out 0 0
  made_start h =
      record {
        upto = omega arith;
        room = h;
        few = omega arith;
        counted = omega arith;
        stored = rw (mul-zero k) (sets_all out (bytes_of_all k f samples) (h ∙ sym (length_bytes_of k f samples)));
      }

  module _ (held i : ℕ) (m : Made k f t samples out held i) where
    pub made_turn : (out' : List ℕ) (b : ℕ) → i < length samples → out' ≡ sets out (k * i) (bytes_of k (f (samples ‼ i))) → b ≡ cond (t (samples ‼ i)) 1 0
        → Made k f t samples out' (held + b) (i + 1)
    unfolding count bytes_of_all
    made_turn out' b h e c =
        record {
          upto = omega arith;
          room = ap length e ∙ length-sets out (k * i) (bytes_of k (f (samples ‼ i))) ∙ m.room;
          few = let l = at_most_one (t (samples ‼ i)) in omega (arith, m.few);
          counted = counts (rw (left_next samples i nan h) at m.counted);
          stored = rw (e, on) (sym (sets_append (bytes_of k (f (samples ‼ i))) (bytes_of_all k f (drop (i + 1) samples)) out (k * i)) ∙ (rw (left_next samples i nan h) at m.stored));
        }
      where
        on : k * (i + 1) ≡ k * i + length (bytes_of k (f (samples ‼ i)))
        on = rw (length_bytes k (f (samples ‼ i))) (omega arith)

        at_most_one : (s : Bool) → cond s 1 0 ≤ 1
        at_most_one true = omega arith
        at_most_one false = omega arith

        counts : held + (cond (t (samples ‼ i)) 1 0 + count t (drop (i + 1) samples)) ≡ count t samples → held + b + count t (drop (i + 1) samples) ≡ count t samples
        counts q = omega arith

    pub made_end : length samples ≤ i → (held ≡ count t samples) × (out ≡ bytes_of_all k f samples)
    unfolding count bytes_of_all
    made_end h =
        let c : held + 0 ≡ count t samples = rw (left_none samples i h) at m.counted in
        (omega arith, rw (left_none samples i h) at m.stored)

pub room_for : (k i n : ℕ) {room : ℕ} → i < n → room ≡ k * n → k * i + k ≤ room
room_for k i n h e = omega (arith, e, let more : i + 1 ≤ n = omega arith in mul-le-mul_left k more)

pub from_bool_is : (b : Bool) → from_bool b ≡ cond b 1 0
from_bool_is true = refl
from_bool_is false = refl

-- ---- the bytes that the code stores: the k lowest of a word w whose lowest bits are the number v

same_bytes : (k w v : ℕ) → w % 2 ^ (8 * k) ≡ v → bytes_of k w ≡ bytes_of k v
unfolding bytes_of
same_bytes zero w v e = refl
same_bytes (suc k) w v e =
    let on : 8 * suc k ≡ 8 * k + 8 = omega arith in
    let parts : v ≡ w / 2 ^ 8 % 2 ^ (8 * k) * 2 ^ 8 + w % 2 ^ 8 = sym e ∙ ap (λ (z : ℕ). w % 2 ^ z) on ∙ mod-pow-add w (8 * k) 8 in
    let low : w % 256 ≡ v % 256 = omega (arith, parts) in
    let high : w / 256 % 2 ^ (8 * k) ≡ v / 256 = omega (arith, parts) in
    rw (low, same_bytes k (w / 256) (v / 256) high) refl

byte_is : (i n : ℕ) → byte_at i n ≡ n / 256 ^ i % 256
byte_is zero n = ap (λ (z : ℕ). z % 256) (sym (div-one n))
byte_is (suc i) n = refl

low_bytes : (k i n : ℕ) → bytes_low_first i k n ≡ bytes_of k (n / 256 ^ i)
unfolding bytes_of
low_bytes zero i n = refl
low_bytes (suc k) i n =
    let next : n / 256 ^ suc i ≡ n / 256 ^ i / 256 = ap (λ (z : ℕ). n / z) (pow-suc 256 i) ∙ sym (div-div-eq-div-mul n (256 ^ i) 256) in
    rw (byte_is i n, low_bytes k (suc i) n, next) refl

-- the k lowest bytes of n, as `to_le_bytes` has them
pub le_bytes : (k n : ℕ) → bytes_low_first 0 k n ≡ bytes_of k n
le_bytes k n = low_bytes k 0 n ∙ ap (bytes_of k) (div-one n)

take_low : (k m i n : ℕ) → k ≤ m → take k (bytes_low_first i m n) ≡ bytes_low_first i k n
take_low zero m i n h = refl
take_low (suc k) zero i n h = absurd (omega arith)
take_low (suc k) (suc m) i n h = ap (λ (l : List ℕ). byte_at i n ∷ l) (take_low k m (suc i) n (omega arith))

pub word_stored : (out bytes made : List ℕ) (j k w v : ℕ) → k ≤ 8 → j + k ≤ length out → w % 2 ^ (8 * k) ≡ v → bytes ≡ to_le_bytes w64 w → made ≡ take k bytes
    → put_row j (j + k) made out ≡ sets out j (bytes_of k v)
word_stored out bytes made j k w v few room e b m =
    let low : made ≡ bytes_of k v = m ∙ ap (take k) b ∙ take_low k 8 0 w few ∙ le_bytes k w ∙ same_bytes k w v e in
    ap (λ (l : List ℕ). put_row j (j + k) l out) low ∙ put_row_sets out (bytes_of k v) j k (length_bytes k v) room
