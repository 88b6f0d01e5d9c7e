-- Rest records: a slot number, then a value, each 64 bits, low byte first; no header. Assumes nothing.
use Rattle.std.specs.Prelude.{◌≡◌, refl, Bool, true, false, ◌&&◌, List, [], ◌∷◌, ◌++◌, ℕ, zero, suc, eqb, take, drop}
use Rattle.number.specs.Bytes.{bytes_of, number_of}

pub record Slot : Type 0 where
  pub number : ℕ
  pub value : ℕ

abbrev pub slot : ℕ → ℕ → Slot
slot number value = record { number = number; value = value }

-- the 16 bytes of a record
abbrev pub record_of : Slot → List ℕ
record_of s = bytes_of 8 s.number ++ bytes_of 8 s.value

-- values numbered from a slot on
unfoldable pub numbered : ℕ → List ℕ → List Slot
numbered number [] = []
numbered number (v ∷ vs) = slot number v ∷ numbered (suc number) vs

unfoldable pub encoded : List Slot → List ℕ
encoded [] = []
encoded (s ∷ ss) = record_of s ++ encoded ss

-- ---- the other way: the values of so many records, and whether their slots are in order from a number on

abbrev pub number_in : List ℕ → ℕ
number_in bytes = number_of (take 8 bytes)

unfoldable pub values_in : ℕ → List ℕ → List ℕ
values_in zero bytes = []
values_in (suc n) bytes = number_in (drop 8 bytes) ∷ values_in n (drop 16 bytes)

unfoldable pub in_order : ℕ → ℕ → List ℕ → Bool
in_order number zero bytes = true
in_order number (suc n) bytes = eqb (number_in bytes) number && in_order (suc number) n (drop 16 bytes)

-- ---- two records, there and back

abbrev pub two : List ℕ
two = 0 ∷ 0 ∷ 0 ∷ 0 ∷ 0 ∷ 0 ∷ 0 ∷ 0 ∷ 7 ∷ 1 ∷ 0 ∷ 0 ∷ 0 ∷ 0 ∷ 0 ∷ 0
    ∷ 1 ∷ 0 ∷ 0 ∷ 0 ∷ 0 ∷ 0 ∷ 0 ∷ 0 ∷ 255 ∷ 0 ∷ 0 ∷ 0 ∷ 0 ∷ 0 ∷ 0 ∷ 128 ∷ []

pub two_encoded : encoded (numbered 0 (263 ∷ 0x8000_0000_0000_00ff ∷ [])) ≡ two
unfolding encoded numbered bytes_of
two_encoded = refl

pub two_values : values_in 2 two ≡ 263 ∷ 0x8000_0000_0000_00ff ∷ []
unfolding values_in number_of
two_values = refl

pub two_in_order : in_order 0 2 two ≡ true
unfolding in_order number_of
two_in_order = refl

-- the second again: slot 1 stands where slot 0 is asked for
pub two_shuffled : in_order 0 1 (drop 16 two) ≡ false
unfolding in_order number_of
two_shuffled = refl
