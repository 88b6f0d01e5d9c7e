-- Records in a slice of bytes, written and read one after the other, and each way the other's inverse. Assumes nothing.
use mathlib.Core.Path.{◌≡◌, refl, sym, ◌∙◌, ap}
use mathlib.Core.Bool.{Bool, true, false, ◌&&◌}
use mathlib.Core.List.{List}
use Prim.Native.Nat.{ℕ, zero, suc, ◌+◌, ◌-◌, ◌*◌, ◌≤◌, ◌<◌}
use native.Mathlib.Numerals.{add-one}
use native.Mathlib.Omega.{arith}
use lib.Dec.{eqb}
use lib.ListN.{length, get_or, drop, set, length-append}
use lib.Seq.{sets, length-sets, drop-drop}
use borrow.Author.Tests.{le-leb}
use Rattle.number.specs.Bytes.{bytes_of, put_at}
use Rattle.number.proofs.ByteLaws.{length_bytes, put_there, written}
use Rattle.number.proofs.Lists.{left_next, left_none, sets_append, sets_all}
use Rattle.records.specs.Records.{Slot, slot, record_of, numbered, encoded, number_in, values_in, in_order}

-- a number put where there is room
put_sets : (s : List ℕ) (at v : ℕ) → at + 8 ≤ length s → put_at s at v ≡ sets s at (bytes_of 8 v)
put_sets s at v h = put_there s at v (le-leb (at + 8) (length s) h) ∙ sym (written s at 8 v h)

-- ---- writing

pub record_put : (s : List ℕ) (n v : ℕ) → 16 * n + 16 ≤ length s → put_at (put_at s (16 * n) n) (16 * n + 8) v ≡ sets s (16 * n) (record_of (slot n v))
record_put s n v h =
    let first = sets s (16 * n) (bytes_of 8 n) in
    let long : 16 * n + 8 + 8 ≤ length first = rw (length-sets s (16 * n) (bytes_of 8 n)) (omega arith) in
    ap (λ (l : List ℕ). put_at l (16 * n + 8) v) (put_sets s (16 * n) n (omega arith))
    ∙ put_sets first (16 * n + 8) v long
    ∙ sym (rw (length_bytes 8 n) at (sets_append (bytes_of 8 n) (bytes_of 8 v) s (16 * n)))

pub length_record : (s : Slot) → length (record_of s) ≡ 16
length_record s = rw (length-append, length_bytes 8 s.number, length_bytes 8 s.value) refl

module _ (vs s : List ℕ) (i : ℕ) where
  -- the rest of the values from here on, and one record less
  pub encode_turn : i < length vs
      → sets (sets s (16 * i) (record_of (slot i (get_or vs i 0)))) (16 * (i + 1)) (encoded (numbered (i + 1) (drop (i + 1) vs))) ≡ sets s (16 * i) (encoded (numbered i (drop i vs)))
  unfolding encoded numbered
  encode_turn h =
      let on : 16 * (i + 1) ≡ 16 * i + length (record_of (slot i (get_or vs i 0))) = rw (length_record (slot i (get_or vs i 0))) (omega arith) in
      rw (left_next vs i 0 h, on, add-one i) (sym (sets_append (record_of (slot i (get_or vs i 0))) (encoded (numbered (suc i) (drop (suc i) vs))) s (16 * i)))

  pub encode_end : length vs ≤ i → sets s (16 * i) (encoded (numbered i (drop i vs))) ≡ s
  unfolding encoded numbered
  encode_end h = rw (left_none vs i h) refl

-- ---- reading

pub length_values : (n : ℕ) (bytes : List ℕ) → length (values_in n bytes) ≡ n
unfolding values_in
length_values zero bytes = refl
length_values (suc n) bytes = ap suc (length_values n (drop 16 bytes))

module _ (bytes : List ℕ) (n i : ℕ) (h : i < n) where
  abbrev here : List ℕ
  here = drop (16 * i) bytes

  next : drop 16 here ≡ drop (16 * (i + 1)) bytes
  next = let on : 16 * i + 16 ≡ 16 * (i + 1) = omega arith in drop-drop 16 (16 * i) bytes ∙ ap (λ (k : ℕ). drop k bytes) on

  one_more : n - i ≡ suc (n - (i + 1))
  one_more = omega arith

  pub values_turn : (vs : List ℕ) → sets (set vs i (number_in (drop (16 * i + 8) bytes))) (i + 1) (values_in (n - (i + 1)) (drop (16 * (i + 1)) bytes)) ≡ sets vs i (values_in (n - i) here)
  unfolding values_in
  values_turn vs = rw (one_more, next, drop-drop 8 (16 * i) bytes, add-one i) refl

  pub order_turn : (b : Bool) → (b && eqb (number_in here) i && in_order (i + 1) (n - (i + 1)) (drop (16 * (i + 1)) bytes)) ≡ (b && in_order i (n - i) here)
  unfolding in_order
  order_turn false = refl
  order_turn true = rw (one_more, next, add-one i) refl

-- all read: they are the values
pub values_end : (bytes vs : List ℕ) (n : ℕ) → length vs ≡ n → sets vs 0 (values_in n bytes) ≡ values_in n bytes
values_end bytes vs n h = sets_all vs (values_in n bytes) (h ∙ sym (length_values n bytes))

module _ (bytes : List ℕ) (n i : ℕ) (h : n ≤ i) where
  none_left : n - i ≡ 0
  none_left = omega arith

  pub values_done : (vs : List ℕ) → vs ≡ sets vs i (values_in (n - i) (drop (16 * i) bytes))
  unfolding values_in
  values_done vs = rw none_left refl

  pub order_done : (b : Bool) → b ≡ (b && in_order i (n - i) (drop (16 * i) bytes))
  unfolding in_order
  order_done false = refl
  order_done true = rw none_left refl
