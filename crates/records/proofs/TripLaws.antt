-- Records there and back: values come back from the records that hold them, and records from the values in them. Assumes nothing.
use mathlib.Core.Path.{◌≡◌, refl, sym, ◌∙◌, ap}
use mathlib.Core.Bool.{Bool, true, ◌&&◌}
use mathlib.Core.List.{List, [], ◌∷◌, ◌++◌, append_assoc}
use Prim.Native.Nat.{ℕ, zero, suc, ◌+◌, ◌*◌, ◌^◌, ◌≤◌, ◌<◌}
use native.Mathlib.Nat.{mod-eq_of_lt}
use native.Mathlib.Omega.{arith}
use lib.Dec.{eqb, lit<}
use lib.ListN.{length, get_or, take, drop, length-append, length-drop, take-append-drop}
use lib.Seq.{length-take-le, take_at, drop_at, drop-drop}
use borrow.Author.Tests.{eq-eqb, eqb-true}
use Rattle.number.specs.Bytes.{bytes_of, number_of, Bytes}
use Rattle.number.proofs.ByteLaws.{length_bytes, number_of_bytes_of, bytes_of_number_of, bytes_drop, bytes_take, part_below}
use Rattle.number.proofs.Floats.{both_first, both_second}
use Rattle.records.specs.Records.{slot, record_of, numbered, encoded, number_in, values_in, in_order}
use Rattle.records.proofs.RecordLaws.{length_record}

-- sixteen bytes a record
pub length_encoded : (k : ℕ) (vs : List ℕ) → length (encoded (numbered k vs)) ≡ 16 * length vs
unfolding encoded numbered
length_encoded k [] = refl
length_encoded k (v ∷ vs) =
    let here = length_record (slot k v) in
    let rest = length_encoded (suc k) vs in
    length-append (record_of (slot k v)) (encoded (numbered (suc k) vs)) ∙ (omega (arith, here, rest))

-- ---- a record in front of others

-- a number in front of other bytes
number_front : (v : ℕ) (rest : List ℕ) → v < 2 ^ 64 → number_in (bytes_of 8 v ++ rest) ≡ v
number_front v rest h =
    ap number_of (take_at (bytes_of 8 v) rest 8 (length_bytes 8 v)) ∙ number_of_bytes_of 8 v ∙ mod-eq_of_lt h

module _ (k v : ℕ) (rest : List ℕ) where
  apart : record_of (slot k v) ++ rest ≡ bytes_of 8 k ++ (bytes_of 8 v ++ rest)
  apart = append_assoc (bytes_of 8 k) (bytes_of 8 v) rest

  slot_front : k < 2 ^ 64 → number_in (record_of (slot k v) ++ rest) ≡ k
  slot_front h = ap number_in apart ∙ number_front k (bytes_of 8 v ++ rest) h

  value_front : v < 2 ^ 64 → number_in (drop 8 (record_of (slot k v) ++ rest)) ≡ v
  value_front h =
      ap (λ (l : List ℕ). number_in (drop 8 l)) apart
      ∙ ap number_in (drop_at (bytes_of 8 k) (bytes_of 8 v ++ rest) 8 (length_bytes 8 k))
      ∙ number_front v rest h

  others : drop 16 (record_of (slot k v) ++ rest) ≡ rest
  others = drop_at (record_of (slot k v)) rest 16 (length_record (slot k v))

-- ---- from values and back

pub values_encoded : (k : ℕ) (vs : List ℕ) → ((i : ℕ) → get_or vs i 0 < 2 ^ 64) → values_in (length vs) (encoded (numbered k vs)) ≡ vs
unfolding values_in encoded numbered
values_encoded k [] h = refl
values_encoded k (v ∷ vs) h =
    let rest = encoded (numbered (suc k) vs) in
    let on = values_encoded (suc k) vs (λ i. h (suc i)) in
    ap (λ (w : ℕ). w ∷ values_in (length vs) (drop 16 (record_of (slot k v) ++ rest))) (value_front k v rest (h 0))
    ∙ ap (λ (l : List ℕ). v ∷ values_in (length vs) l) (others k v rest)
    ∙ ap (λ (ws : List ℕ). v ∷ ws) on

pub order_encoded : (k : ℕ) (vs : List ℕ) → k + length vs ≤ 2 ^ 64 → in_order k (length vs) (encoded (numbered k vs)) ≡ true
unfolding in_order encoded numbered
order_encoded k [] h = refl
order_encoded k (v ∷ vs) h =
    let rest = encoded (numbered (suc k) vs) in
    let here = eq-eqb (number_in (record_of (slot k v) ++ rest)) k (slot_front k v rest (omega arith)) in
    ap (λ (b : Bool). b && in_order (suc k) (length vs) (drop 16 (record_of (slot k v) ++ rest))) here
    ∙ ap (in_order (suc k) (length vs)) (others k v rest)
    ∙ order_encoded (suc k) vs (omega arith)

-- ---- from bytes and back

-- eight bytes of a slice
bytes_there : (bytes : List ℕ) (at : ℕ) → Bytes bytes → at + 8 ≤ length bytes → bytes_of 8 (number_in (drop at bytes)) ≡ take 8 (drop at bytes)
bytes_there bytes at h fits =
    let part = take 8 (drop at bytes) in
    let n : length part ≡ 8 = length-take-le 8 (drop at bytes) (rw length-drop (omega arith)) in
    ap (λ (k : ℕ). bytes_of k (number_of part)) (sym n) ∙ bytes_of_number_of part (bytes_take 8 (drop at bytes) (bytes_drop at bytes h))

-- a slice of two numbers and more
joined : (bytes : List ℕ) → (take 8 bytes ++ take 8 (drop 8 bytes)) ++ drop 16 bytes ≡ bytes
joined bytes =
    append_assoc (take 8 bytes) (take 8 (drop 8 bytes)) (drop 16 bytes)
    ∙ ap (λ (l : List ℕ). take 8 bytes ++ (take 8 (drop 8 bytes) ++ l)) (sym (drop-drop 8 8 bytes))
    ∙ ap (λ (l : List ℕ). take 8 bytes ++ l) (take-append-drop 8 (drop 8 bytes))
    ∙ take-append-drop 8 bytes

no_bytes : (bytes : List ℕ) → length bytes ≡ 0 → [] ≡ bytes
no_bytes [] e = refl
no_bytes (b ∷ bytes) e = absurd (omega arith)

pub encoded_values : (n k : ℕ) (bytes : List ℕ) → Bytes bytes → length bytes ≡ 16 * n → in_order k n bytes ≡ true → encoded (numbered k (values_in n bytes)) ≡ bytes
unfolding values_in in_order encoded numbered
encoded_values zero k bytes h long order = no_bytes bytes long
encoded_values (suc n) k bytes h long order =
    let same : number_in bytes ≡ k = eqb-true (number_in bytes) k (both_first (eqb (number_in bytes) k) (in_order (suc k) n (drop 16 bytes)) order) in
    let left : length (drop 16 bytes) ≡ 16 * n = rw length-drop (omega arith) in
    let rest = encoded_values n (suc k) (drop 16 bytes) (bytes_drop 16 bytes h) left (both_second (eqb (number_in bytes) k) (in_order (suc k) n (drop 16 bytes)) order) in
    let first : bytes_of 8 k ≡ take 8 bytes = ap (bytes_of 8) (sym same) ∙ bytes_there bytes 0 h (omega arith) in
    let second : bytes_of 8 (number_in (drop 8 bytes)) ≡ take 8 (drop 8 bytes) = bytes_there bytes 8 h (omega arith) in
    ap (λ (l : List ℕ). (l ++ bytes_of 8 (number_in (drop 8 bytes))) ++ encoded (numbered (suc k) (values_in n (drop 16 bytes)))) first
    ∙ ap (λ (l : List ℕ). (take 8 bytes ++ l) ++ encoded (numbered (suc k) (values_in n (drop 16 bytes)))) second
    ∙ ap (λ (l : List ℕ). (take 8 bytes ++ take 8 (drop 8 bytes)) ++ l) rest
    ∙ joined bytes

-- a value has 64 bits
pub values_below : (n : ℕ) (bytes : List ℕ) → Bytes bytes → (i : ℕ) → get_or (values_in n bytes) i 0 < 2 ^ 64
unfolding values_in
values_below zero bytes h i = lit< tt
values_below (suc n) bytes h zero = part_below bytes 8 8 h
values_below (suc n) bytes h (suc i) = values_below n (drop 16 bytes) (bytes_drop 16 bytes h) i
