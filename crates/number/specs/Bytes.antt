-- Numbers as bytes, the lowest byte first, at any place of a list of bytes. Assumes nothing.
use Rattle.std.specs.Prelude.{◌≡◌, ℕ, zero, suc, ◌+◌, ◌*◌, ◌/◌, ◌%◌, ◌<◌, Bool, true, false, cond, List, [], ◌∷◌, ◌++◌, length, take, drop, nat_le, slice_index, refl}
use Rattle.std.specs.Prelude.{Option, Some, None}

-- the k lowest bytes of v
unfoldable pub bytes_of : ℕ → ℕ → List ℕ
bytes_of zero v = []
bytes_of (suc k) v = v % 256 ∷ bytes_of k (v / 256)

-- the number that they are the bytes of
unfoldable pub number_of : List ℕ → ℕ
number_of [] = 0
number_of (b ∷ l) = b + 256 * number_of l

-- each element is a byte
abbrev pub Bytes : List ℕ → Type 0
Bytes l = (i : ℕ) → slice_index l i < 256

-- eight bytes stand from `at` on among `count`
abbrev pub room : ℕ → ℕ → Bool
room count at = nat_le (at + 8) count

-- the number of the eight bytes from `at` on, and None where there are fewer
abbrev pub word_at : List ℕ → ℕ → Option ℕ
word_at s at = cond (room (length s) at) (Some (number_of (take 8 (drop at s)))) None

-- s with the eight bytes of v from `at` on, and s itself where they have no room
abbrev pub put_at : List ℕ → ℕ → ℕ → List ℕ
put_at s at v = cond (room (length s) at) (take at s ++ bytes_of 8 v ++ drop (at + 8) s) s

pub bytes_of_number : bytes_of 3 0x1_0203 ≡ 3 ∷ 2 ∷ 1 ∷ []
unfolding bytes_of
bytes_of_number = refl

pub number_of_bytes : number_of (3 ∷ 2 ∷ 1 ∷ []) ≡ 0x1_0203
unfolding number_of
number_of_bytes = refl

-- of nine bytes eight stand from 1 on, and from 2 on they do not
pub room_at_one : room 9 1 ≡ true
room_at_one = refl

pub room_at_two : room 9 2 ≡ false
room_at_two = refl

pub word_in_place : word_at (9 ∷ 7 ∷ 1 ∷ 0 ∷ 0 ∷ 0 ∷ 0 ∷ 0 ∷ 0 ∷ []) 1 ≡ Some 263
unfolding number_of
word_in_place = refl

pub word_short : word_at (9 ∷ 7 ∷ 1 ∷ 0 ∷ 0 ∷ 0 ∷ 0 ∷ 0 ∷ 0 ∷ []) 2 ≡ None
word_short = refl

pub put_in_place : put_at (9 ∷ 9 ∷ 9 ∷ 9 ∷ 9 ∷ 9 ∷ 9 ∷ 9 ∷ 9 ∷ 9 ∷ []) 1 263 ≡ 9 ∷ 7 ∷ 1 ∷ 0 ∷ 0 ∷ 0 ∷ 0 ∷ 0 ∷ 0 ∷ 9 ∷ []
unfolding bytes_of
put_in_place = refl

pub put_no_room : put_at (9 ∷ 9 ∷ []) 1 263 ≡ 9 ∷ 9 ∷ []
put_no_room = refl
