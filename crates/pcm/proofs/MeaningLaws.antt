-- What `rounded_to` and `is_past` mean. A sample m * 2^e is the fraction `m * up e / down e`, negative where s is true. Assumes nothing.
use mathlib.Core.Path.{◌≡◌, ap}
use mathlib.Core.Bool.{Bool, true, false}
use Prim.Native.Nat.{ℕ, ◌*◌, ◌≤◌, ◌<◌}
use native.Mathlib.Nat.{min-eq_left, min-eq_right}
use native.Mathlib.Omega.{arith}
use lib.IntN.{ℤ}
use lib.Ieee.{fin, up, down}
use lib.Ieee.Fits.{down_pos}
use lib.Ieee.Nearest.{closest}
use borrow.Author.Tests.{ltb-true, ltb-false}
use Rattle.pcm.specs.Sample.{Nearest, rounded_to, is_past, signed, limit}
use Rattle.pcm.proofs.NearestLaws.{closest_is, closest_only}

module _ (h : ℕ) (s : Bool) (m : ℕ) (e : ℤ) where
  -- not held back: the number is the nearest, the even one at a tie, and within the limit
  pub nearest_number : is_past h (fin s m e) ≡ false → (n : ℕ) × (rounded_to h (fin s m e) ≡ signed s n) × Nearest (m * up e) (down e) n × (n ≤ limit h s)
  unfolding rounded_to is_past
  nearest_number f =
      let n = closest (m * up e) (down e) in
      let within : n ≤ limit h s = ltb-false (limit h s) n f in
      (n, ap (signed s) (min-eq_left within), closest_is (m * up e) (down e) (down_pos e), within)

  -- held back: the number is the limit, and whatever is nearest is past it
  pub held_number : is_past h (fin s m e) ≡ true → (rounded_to h (fin s m e) ≡ signed s (limit h s)) × ((n : ℕ) → Nearest (m * up e) (down e) n → limit h s < n)
  unfolding rounded_to is_past
  held_number f =
      let past : limit h s < closest (m * up e) (down e) = ltb-true (limit h s) (closest (m * up e) (down e)) f in
      let below : limit h s ≤ closest (m * up e) (down e) = omega arith in
      (ap (signed s) (min-eq_right below), λ n q. let same = closest_only (m * up e) (down e) (down_pos e) n q in omega arith)
