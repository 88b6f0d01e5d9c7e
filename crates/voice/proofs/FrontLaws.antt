-- The front of an array, lent and given back. Assumes nothing.
use mathlib.Core.Path.{◌≡◌, refl, sym, ap, ◌∙◌}
use mathlib.Core.List.{List}
use Prim.Native.Nat.{ℕ, ◌-◌, ◌≤◌}
use native.Mathlib.Omega.{arith}
use lib.ListN.{length, take, drop, take-append-drop}
use lib.Ieee.{Float}
use lib.Seq.{length-take-le, take-append_seam, drop-append_seam}
use Rattle.number.specs.Lists.{row, put_row}
use Rattle.voice.specs.Voice.{in_front}

module _ (n : ℕ) (array : List Float) where
  -- what `&mut array[0..n]` lends,
  pub lent_front : row 0 n array ≡ take n array
  lent_front = let all : n - 0 ≡ n = omega arith in rw all refl

  pub lent_length : n ≤ length array → length (row 0 n array) ≡ n
  lent_length h = ap length lent_front ∙ length-take-le n array h

  -- and what it gives back
  pub put_front : (xs : List Float) → length xs ≡ n → put_row 0 n xs array ≡ in_front xs array
  put_front xs h = let all : n - 0 ≡ n = omega arith in rw (all, h) refl

  -- a front of n entries may be put twice, and the second stands
  pub front_twice : (xs ys : List Float) → length xs ≡ n → length ys ≡ n → in_front xs (in_front ys array) ≡ in_front xs array
  front_twice xs ys h k = let same : length xs ≡ length ys = h ∙ sym k in rw (same, drop-append_seam ys (drop (length ys) array)) refl

  pub front_again : n ≤ length array → in_front (take n array) array ≡ array
  front_again h = rw (length-take-le n array h) (take-append-drop n array)

  pub front_of : (xs : List Float) → length xs ≡ n → take n (in_front xs array) ≡ xs
  front_of xs h = rw (← h) (take-append_seam xs (drop (length xs) array))
