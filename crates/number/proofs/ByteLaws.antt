-- Numbers and their bytes, over the width: each comes back from the other, alone and in a slice; and the turns of the loops that read and write them. Assumes nothing.
use Rattle.std.proofs.Common.{◌≡◌, ℕ, zero, suc, ◌+◌, ◌-◌, ◌*◌, ◌/◌, ◌%◌, ◌^◌, ◌<◌, ◌≤◌, Bool, true, false, leb, List, [], ◌∷◌, ◌++◌, length, take, drop, sym, refl, ap, ◌∙◌, append_assoc, lt_of_lt_of_le, mod-lt, mod-eq_of_lt, arith, lit<, length-drop, length-take, length-take-le, get_or-drop, leb-true}
use native.Mathlib.Nat.{div-one, div-div-eq-div-mul, pow-suc, pow-succ', mod-one, one-le-pow, div-add-mod, add-mul-mod_self_left, pow-le-pow_right}
use lib.Seq.{sets, sets-eq}
use Rattle.std.specs.Prelude.{Some}
use Rattle.std.specs.Int.{w64, byte_at, bytes_low_first, to_le_bytes, from_le_bytes}
use Rattle.std.proofs.lemmas.Nat.{le_bytes_8}
use Rattle.number.specs.Bytes.{bytes_of, number_of, Bytes, room, word_at, put_at}
use Rattle.number.proofs.Lists.{row, put_row, put_row_rest, put_row_row, length_put_row, row_put_row}

-- ---- a number and its bytes

pub length_bytes : (k v : ℕ) → length (bytes_of k v) ≡ k
unfolding bytes_of
length_bytes zero v = refl
length_bytes (suc k) v = ap suc (length_bytes k (v / 256))

-- what is left of v modulo 256 times n, by its lowest byte and the rest
low_byte : (v n : ℕ) → 0 < n → v % 256 + 256 * (v / 256 % n) ≡ v % (256 * n)
low_byte v n h =
    let s : v / 256 % n < n = mod-lt (v / 256) h in
    let e : v ≡ v % 256 + 256 * (v / 256 % n) + 256 * n * (v / 256 / n) = omega (arith, div-add-mod (v / 256) n) in
    let small : v % 256 + 256 * (v / 256 % n) < 256 * n = omega arith in
    sym (ap (λ (m : ℕ). m % (256 * n)) e ∙ add-mul-mod_self_left (v % 256 + 256 * (v / 256 % n)) (256 * n) (v / 256 / n) ∙ mod-eq_of_lt small)

pub number_of_bytes_of : (k v : ℕ) → number_of (bytes_of k v) ≡ v % 256 ^ k
unfolding bytes_of number_of
number_of_bytes_of zero v = sym (mod-one v)
number_of_bytes_of (suc k) v = rw (number_of_bytes_of k (v / 256), pow-succ') (low_byte v (256 ^ k) (one-le-pow k 256 (lit< tt)))

pub bytes_of_number_of : (l : List ℕ) → Bytes l → bytes_of (length l) (number_of l) ≡ l
unfolding bytes_of number_of
bytes_of_number_of [] h = refl
bytes_of_number_of (b ∷ l) h =
    let low : (b + 256 * number_of l) % 256 ≡ b = omega (arith, h 0) in
    let high : (b + 256 * number_of l) / 256 ≡ number_of l = omega (arith, h 0) in
    rw (low, high, bytes_of_number_of l (λ i. h (suc i))) refl

pub number_below : (l : List ℕ) → Bytes l → number_of l < 256 ^ length l
unfolding number_of
number_below [] h = lit< tt
number_below (b ∷ l) h = rw pow-succ' (omega (arith, h 0, number_below l (λ i. h (suc i))))

-- ---- std's words for eight bytes

-- the bytes from number i on of v are those of what is left of v without the i lowest
low_bytes : (i k v : ℕ) → bytes_low_first i k v ≡ bytes_of k (v / 256 ^ i)
unfolding bytes_of
low_bytes i zero v = refl
low_bytes i (suc k) v =
    let on : v / 256 ^ suc i ≡ v / 256 ^ i / 256 = ap (λ (p : ℕ). v / p) (pow-suc 256 i) ∙ sym (div-div-eq-div-mul v (256 ^ i) 256) in
    ap (λ (b : ℕ). b ∷ bytes_low_first (suc i) k v) (byte_is i v) ∙ ap (λ (l : List ℕ). v / 256 ^ i % 256 ∷ l) (low_bytes (suc i) k v ∙ ap (bytes_of k) on)
  where
    byte_is : (i v : ℕ) → byte_at i v ≡ v / 256 ^ i % 256
    byte_is zero v = ap (λ (n : ℕ). n % 256) (sym (div-one v))
    byte_is (suc i) v = refl

pub le_bytes : (v : ℕ) → to_le_bytes w64 v ≡ bytes_of 8 v
le_bytes v = low_bytes 0 8 v ∙ ap (bytes_of 8) (div-one v)

pub number_of_le : (l : List ℕ) (n : ℕ) → length l ≡ 8 → Bytes l → n < 2 ^ 64 → n ≡ from_le_bytes w64 l → n ≡ number_of l
number_of_le l n long h hn e = sym (ap number_of (sym (sym (le_bytes n) ∙ le_bytes_8 l n long h e)) ∙ number_of_bytes_of 8 n ∙ mod-eq_of_lt hn)

-- ---- a part of a slice of bytes

pub bytes_drop : (n : ℕ) (l : List ℕ) → Bytes l → Bytes (drop n l)
bytes_drop n l h i = rw get_or-drop (h (n + i))

pub bytes_take : (n : ℕ) (l : List ℕ) → Bytes l → Bytes (take n l)
bytes_take zero l h i = lit< tt
bytes_take (suc n) [] h i = lit< tt
bytes_take (suc n) (b ∷ l) h zero = h 0
bytes_take (suc n) (b ∷ l) h (suc i) = bytes_take n l (λ j. h (suc j)) i

-- the number of n bytes of a slice
pub part_below : (s : List ℕ) (a n : ℕ) → Bytes s → number_of (take n (drop a s)) < 256 ^ n
part_below s a n h =
    let part = take n (drop a s) in
    let short : length part ≤ n = rw length-take (omega arith) in
    lt_of_lt_of_le (number_below part (bytes_take n (drop a s) (bytes_drop a s h))) (pow-le-pow_right (lit< tt) short)

-- all of them stored
pub written : (s : List ℕ) (at w v : ℕ) → at + w ≤ length s → sets s at (bytes_of w v) ≡ take at s ++ bytes_of w v ++ drop (at + w) s
written s at w v h = rw length_bytes at (sets-eq (bytes_of w v) s at (rw length_bytes h))

-- ---- eight bytes of room

-- ---- there and back in a slice

-- the bytes of v in the place of w bytes, as a row
pub as_row : (s : List ℕ) (at w v : ℕ) → take at s ++ bytes_of w v ++ drop (at + w) s ≡ put_row at (at + w) (bytes_of w v) s
as_row s at w v = append_assoc (take at s) (bytes_of w v) (drop (at + w) s) ∙ sym (put_row_rest at (at + w) s (omega arith) (bytes_of w v))

module _ (s : List ℕ) (at w v : ℕ) (fits : at + w ≤ length s) where
  put_width : length (bytes_of w v) ≡ at + w - at
  put_width = length_bytes w v ∙ (omega arith)

  length_put : length (take at s ++ bytes_of w v ++ drop (at + w) s) ≡ length s
  length_put = ap length (as_row s at w v) ∙ length_put_row at (at + w) s (omega arith) fits (bytes_of w v) put_width

  -- they are what stands there
  bytes_put : take w (drop at (take at s ++ bytes_of w v ++ drop (at + w) s)) ≡ bytes_of w v
  bytes_put =
      let n : at + w - at ≡ w = omega arith in
      rw n at (ap (row at (at + w)) (as_row s at w v) ∙ row_put_row at (at + w) s (omega arith) fits (bytes_of w v) put_width)

-- where there is room
pub word_there : (s : List ℕ) (at : ℕ) → room (length s) at ≡ true → word_at s at ≡ Some (number_of (take 8 (drop at s)))
word_there s at r = rw r refl

pub put_there : (s : List ℕ) (at v : ℕ) → room (length s) at ≡ true → put_at s at v ≡ take at s ++ bytes_of 8 v ++ drop (at + 8) s
put_there s at v r = rw r refl

-- reading what was written gives the number
pub get_put : (s : List ℕ) (at v : ℕ) → v < 2 ^ 64 → room (length s) at ≡ true → word_at (put_at s at v) at ≡ Some v
get_put s at v hv r =
    let p = take at s ++ bytes_of 8 v ++ drop (at + 8) s in
    let fits : at + 8 ≤ length s = leb-true (at + 8) (length s) r in
    let q : room (length p) at ≡ true = rw (length_put s at 8 v fits) r in
    let number : number_of (bytes_of 8 v) ≡ v = number_of_bytes_of 8 v ∙ mod-eq_of_lt hv in
    ap (λ (l : List ℕ). word_at l at) (put_there s at v r) ∙ word_there p at q ∙ ap Some (ap number_of (bytes_put s at 8 v fits) ∙ number)

-- writing what was read changes nothing
pub put_get : (s : List ℕ) (at v : ℕ) → Bytes s → word_at s at ≡ Some v → put_at s at v ≡ s
put_get s at v h e = go (room (length s) at) refl
  where
    go : (b : Bool) → room (length s) at ≡ b → put_at s at v ≡ s
    go false r = rw r refl
    go true r =
        let fits : at + 8 ≤ length s = leb-true (at + 8) (length s) r in
        let part = take 8 (drop at s) in
        let n : length part ≡ 8 = length-take-le 8 (drop at s) (rw length-drop (omega arith)) in
        let w : Some (number_of part) ≡ Some v = sym (word_there s at r) ∙ e in
        let number : number_of part ≡ v = cc in
        let back : bytes_of 8 v ≡ part = ap (λ (k : ℕ). bytes_of k v) (sym n) ∙ ap (bytes_of (length part)) (sym number) ∙ bytes_of_number_of part (bytes_take 8 (drop at s) (bytes_drop at s h)) in
        let eight : at + 8 - at ≡ 8 = omega arith in
        put_there s at v r ∙ as_row s at 8 v ∙ rw (back, eight) (rw eight at (put_row_row at (at + 8) s (omega arith)))
