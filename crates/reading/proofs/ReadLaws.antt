-- Floats read from slots, and the one form of the NaN. Assumes nothing.
use mathlib.Core.Path.{◌≡◌, refl, sym, ◌∙◌, ap}
use mathlib.Core.Bool.{Bool, true, false, not}
use mathlib.Core.List.{List, [], ◌∷◌, map}
use Prim.Native.Nat.{ℕ, suc, ◌+◌, ◌-◌, ◌^◌, ◌≤◌, ◌<◌}
use native.Mathlib.Numerals.{add-one}
use native.Mathlib.Omega.{arith}
use lib.Dec.{eqb}
use lib.Ieee.{Float}
use lib.ListN.{length, get_or, take, drop, set, length-drop}
use lib.Seq.{sets, length-take-le, take_all}
use borrow.Author.Tests.{eq-eqb, ne_eqb}
use Rattle.number.specs.Bits.{bits_of, float_of, other_nan}
use Rattle.number.proofs.BitLaws.{bits_of_float_of, other_nan_lost}
use Rattle.number.specs.Lists.{row, put_row}
use Rattle.number.proofs.Lists.{left_next, sets_all}
use Rattle.mlsa.specs.Mlsa.{filter}
use Rattle.voice.specs.Voice.{in_front}
use Rattle.voice.proofs.FrontLaws.{lent_length, put_front}
use Rattle.slots.specs.Sound.{one_form}

-- read and written again, bits stay exactly where they are no other form of the NaN
pub form_test : (b : ℕ) → b < 2 ^ 64 → eqb (bits_of (float_of b)) b ≡ one_form b
unfolding one_form
form_test b h = go (other_nan b) refl
  where
    go : (t : Bool) → other_nan b ≡ t → eqb (bits_of (float_of b)) b ≡ not t
    go true e = ne_eqb (bits_of (float_of b)) b (other_nan_lost b e)
    go false e = eq-eqb (bits_of (float_of b)) b (bits_of_float_of b h e)

pub length_map : {A B : Type 0} (f : A → B) (l : List A) → length (map f l) ≡ length l
length_map f [] = refl
length_map f (x ∷ l) = ap suc (length_map f l)

-- ---- floats from `at` on, one after the other

module _ (ws : List ℕ) (at n : ℕ) where
  -- what is still to be read from place i on
  abbrev pub to_read : ℕ → List Float
  to_read i = map float_of (take (n - i) (drop (at + i) ws))

  pub read_turn : (i : ℕ) (vs : List Float) → i < n → at + n ≤ length ws
      → sets (set vs i (float_of (get_or ws (at + i) 0))) (i + 1) (to_read (i + 1)) ≡ sets vs i (to_read i)
  read_turn i vs h fits =
      let more : n - i ≡ suc (n - (i + 1)) = omega arith in
      let on : at + i + 1 ≡ at + (i + 1) = omega arith in
      rw (more, left_next ws (at + i) 0 (omega arith), on, add-one i) refl

  pub read_done : (i : ℕ) (vs : List Float) → n ≤ i → vs ≡ sets vs i (to_read i)
  read_done i vs h = let none : n - i ≡ 0 = omega arith in rw none refl

  pub length_read : at + n ≤ length ws → length (map float_of (take n (drop at ws))) ≡ n
  length_read fits = length_map float_of (take n (drop at ws)) ∙ length-take-le n (drop at ws) (rw length-drop (omega arith))

  pub read_end : (vs : List Float) → length vs ≡ n → at + n ≤ length ws → sets vs 0 (map float_of (take n (drop at ws))) ≡ map float_of (take n (drop at ws))
  read_end vs e fits = sets_all vs (map float_of (take n (drop at ws))) (e ∙ sym (length_read fits))

-- so many of them in front of an array, which lent its front
pub array_of : (array xs : List Float) (ws : List ℕ) (at n : ℕ) → n ≤ length array → at + n ≤ length ws
    → xs ≡ map float_of (take (length (row 0 n array)) (drop at ws)) → put_row 0 n xs array ≡ in_front (map float_of (take n (drop at ws))) array
array_of array xs ws at n h fits e =
    let same : xs ≡ map float_of (take n (drop at ws)) = e ∙ rw (lent_length n array h) refl in
    put_front n array xs (ap length same ∙ length_read ws at n fits) ∙ ap (λ (ys : List Float). in_front ys array) same

-- filters of equal taps are equal
pub taps_same : {a b c d p q r t : List Float} → a ≡ p → b ≡ q → c ≡ r → d ≡ t → filter a b c d ≡ filter p q r t
taps_same {a} {b} {c} {d} {p} {q} {r} {t} i j k l =
    ap (λ (x : List Float). filter x b c d) i ∙ ap (λ (x : List Float). filter p x c d) j ∙ ap (λ (x : List Float). filter p q x d) k ∙ ap (λ (x : List Float). filter p q r x) l

-- a part up to the end
pub to_the_end : (ws : List ℕ) (at : ℕ) → take (length ws - at) (drop at ws) ≡ drop at ws
to_the_end ws at = take_all (length ws - at) (drop at ws) (rw length-drop (omega arith))
