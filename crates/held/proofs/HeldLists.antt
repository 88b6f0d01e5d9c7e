-- Lists of f64s: entries, parts, and lists made of others. Assumes nothing.
use mathlib.Core.List.{List, [], ◌∷◌, ◌++◌, map}
use Prim.Native.Nat.{ℕ, zero, suc, ◌-◌}
use lib.ListN.{length, take, drop, set, replicate}
use lib.Ieee.{Float, binary64}
use lib.Ieee.Bits.{of_bits-fits}
use lib.Ieee.Fits.{nan-fits, add-fits, mul-fits}
use Rattle.number.specs.F64.{◌‼◌, ◌⊗◌, 0f}
use Rattle.number.specs.Lists.{row, put_row}
use Rattle.vectors.specs.Vectors.{times_from, plus}
use Rattle.voice.specs.Voice.{in_front}
use Rattle.held.specs.Held.{Holds, AllHeld}

-- ---- entries

pub zero_held : Holds 0f
zero_held = of_bits-fits binary64 0

-- past the end there is the NaN, which is an f64
pub held_at : (l : List Float) (i : ℕ) → AllHeld l → Holds (l ‼ i)
held_at [] i h = nan-fits binary64
held_at (x ∷ l) zero h = h.0
held_at (x ∷ l) (suc i) h = held_at l i h.1

-- ---- parts

pub held_take : (n : ℕ) (l : List Float) → AllHeld l → AllHeld (take n l)
held_take zero l h = tt
held_take (suc n) [] h = tt
held_take (suc n) (x ∷ l) h = (h.0, held_take n l h.1)

pub held_drop : (n : ℕ) (l : List Float) → AllHeld l → AllHeld (drop n l)
held_drop zero l h = h
held_drop (suc n) [] h = tt
held_drop (suc n) (x ∷ l) h = held_drop n l h.1

pub held_append : (l m : List Float) → AllHeld l → AllHeld m → AllHeld (l ++ m)
held_append [] m h k = k
held_append (x ∷ l) m h k = (h.0, held_append l m h.1 k)

pub held_front : (xs array : List Float) → AllHeld xs → AllHeld array → AllHeld (in_front xs array)
held_front xs array h k = held_append xs (drop (length xs) array) h (held_drop (length xs) array k)

pub held_row : (a e : ℕ) (l : List Float) → AllHeld l → AllHeld (row a e l)
held_row a e l h = held_take (e - a) (drop a l) (held_drop a l h)

pub held_put : (a e : ℕ) (r l : List Float) → AllHeld r → AllHeld l → AllHeld (put_row a e r l)
held_put a e r l h k =
    held_append (take a l) (r ++ drop (e - a) (drop a l)) (held_take a l k) (held_append r (drop (e - a) (drop a l)) h (held_drop (e - a) (drop a l) (held_drop a l k)))

-- ---- lists made of others

pub held_set : (l : List Float) (i : ℕ) (x : Float) → Holds x → AllHeld l → AllHeld (set l i x)
held_set [] i x h k = tt
held_set (y ∷ l) zero x h k = (h, k.1)
held_set (y ∷ l) (suc i) x h k = (k.0, held_set l i x h k.1)

pub held_zeros : (n : ℕ) → AllHeld (replicate n 0f)
held_zeros zero = tt
held_zeros (suc n) = (zero_held, held_zeros n)

pub held_map : (f : Float → Float) → ((x : Float) → Holds (f x)) → (l : List Float) → AllHeld (map f l)
held_map f h [] = tt
held_map f h (x ∷ l) = (h x, held_map f h l)

pub held_times : (j : ℕ) (k : Float) (l : List Float) → AllHeld (take j l) → AllHeld (times_from j k l)
unfolding times_from
held_times j k l h = held_append (take j l) (map (λ x. x ⊗ k) (drop j l)) h (held_map (λ x. x ⊗ k) (λ x. mul-fits binary64 x k) (drop j l))

pub held_plus : (l m : List Float) → AllHeld l → AllHeld (plus l m)
unfolding plus
held_plus [] m h = tt
held_plus (x ∷ l) [] h = h
held_plus (x ∷ l) (y ∷ m) h = (add-fits binary64 x y, held_plus l m h.1)
