-- Values that stand in the slots from one place up to another, and floats whose bits come back. Assumes nothing.
use mathlib.Core.Path.{◌≡◌, refl, sym, ◌∙◌, ap}
use mathlib.Core.Bool.{Bool, true, not}
use mathlib.Core.List.{List, [], ◌∷◌, ◌++◌, append_assoc, append-nil, map}
use Prim.Native.Nat.{ℕ, zero, suc, ◌+◌, ◌-◌, ◌^◌, ◌≤◌, ◌<◌}
use native.Mathlib.Omega.{arith}
use lib.Dec.{eqb, leb}
use lib.Ieee.{Float}
use lib.ListN.{length, get_or, take, drop, length-drop, take-append-drop}
use lib.Seq.{drop-drop, length-take-le, get_or-take, get_or-drop}
use borrow.Author.Tests.{leb-true, not-true}
use Rattle.number.specs.Bits.{bits_of, float_of, other_nan}
use Rattle.number.proofs.BitLaws.{bits_of_float_of}
use Rattle.number.proofs.Floats.{both_first, both_second}
use Rattle.number.proofs.Lists.{left_next, left_none, length_row, row_at}
use Rattle.refusing.specs.Refusal.{every}
use Rattle.voice.specs.Voice.{in_front}
use Rattle.voice.proofs.FrontLaws.{front_of}
use Rattle.slots.specs.Slots.{bits, flag, slot_at, float_at, floats_at}
use Rattle.slots.specs.Sound.{one_form, between}
use Rattle.reading.proofs.ReadLaws.{length_read}

-- ---- a value alone

-- a flag that is 0 or 1
pub flag_back : (w : ℕ) → leb w 1 ≡ true → flag (not (eqb w 0)) ≡ w
flag_back zero e = refl
flag_back (suc w) e =
    let most : suc w ≤ 1 = leb-true (suc w) 1 e in
    let none : w ≡ 0 = omega arith in
    rw none refl

-- the bits of a float in the one form
form_back : (b : ℕ) → b < 2 ^ 64 → one_form b ≡ true → bits_of (float_of b) ≡ b
unfolding one_form
form_back b h e = bits_of_float_of b h (not-true (other_nan b) e)

-- ---- lists of them

-- a test that every entry passes is passed by each
every_at : (test : ℕ → Bool) (l : List ℕ) (i : ℕ) → every test l ≡ true → i < length l → test (get_or l i 0) ≡ true
unfolding every
every_at test [] i e h = absurd (omega arith)
every_at test (x ∷ l) zero e h = both_first (test x) (every test l) e
every_at test (x ∷ l) (suc i) e h = every_at test l i (both_second (test x) (every test l) e) (omega arith)

bits_back : (l : List ℕ) → ((i : ℕ) → i < length l → bits_of (float_of (get_or l i 0)) ≡ get_or l i 0) → bits (map float_of l) ≡ l
bits_back [] h = refl
bits_back (b ∷ l) h =
    ap (λ (w : ℕ). w ∷ bits (map float_of l)) (h 0 (omega arith))
    ∙ ap (λ (r : List ℕ). b ∷ r) (bits_back l (λ (i : ℕ) (k : i < length l). h (suc i) (omega arith)))

module _ (ws : List ℕ) where
  -- the bits of each slot in a range come back
  abbrev pub Back : (from to : ℕ) → Type 0
  Back from to = (i : ℕ) → from ≤ i → i < to → bits_of (float_at ws i) ≡ slot_at ws i

  pub range_back : (from to : ℕ) → ((i : ℕ) → slot_at ws i < 2 ^ 64) → to ≤ length ws → every one_form (between from to ws) ≡ true → Back from to
  range_back from to below fits e i h k =
      let there : from + (i - from) ≡ i = omega arith in
      let long : i - from < length (between from to ws) = rw (length_row from to ws (omega arith) fits) (omega arith) in
      let here : get_or (between from to ws) (i - from) 0 ≡ slot_at ws i = row_at from to ws (omega arith) fits (i - from) 0 (omega arith) ∙ ap (slot_at ws) there in
      form_back (slot_at ws i) (below i) (sym (ap one_form here) ∙ every_at one_form (between from to ws) (i - from) e long)

  -- XS STAND FROM a UP TO b
  pub record Stands (xs : List ℕ) (a b : ℕ) : Type 0 where
    pub there : xs ++ drop b ws ≡ drop a ws

  -- one part after the other
  pub stands_on : {xs ys : List ℕ} {a b c : ℕ} → Stands xs a b → Stands ys b c → Stands (xs ++ ys) a c
  stands_on {xs} {ys} {a} {b} {c} first second =
      record { there = append_assoc xs ys (drop c ws) ∙ ap (λ (l : List ℕ). xs ++ l) second.there ∙ first.there }

  -- a slot, then a part
  pub slot_stands : {w : ℕ} {xs : List ℕ} {a c : ℕ} → a < length ws → w ≡ slot_at ws a → Stands xs (a + 1) c → Stands (w ∷ xs) a c
  slot_stands {w} {xs} {a} {c} h e rest =
      record { there = ap (λ (l : List ℕ). w ∷ l) rest.there ∙ ap (λ (x : ℕ). x ∷ drop (a + 1) ws) e ∙ sym (left_next ws a 0 h) }

  pub none_stands : (a : ℕ) → Stands [] a a
  none_stands a = record { there = refl }

  part_stands : (a n : ℕ) → take n (drop a ws) ++ drop (a + n) ws ≡ drop a ws
  part_stands a n = ap (λ (l : List ℕ). take n (drop a ws) ++ l) (sym (drop-drop n a ws)) ∙ take-append-drop n (drop a ws)

  module _ (from to : ℕ) (back : Back from to) (fits : to ≤ length ws) (a n b : ℕ) (on : a + n ≡ b) (low : from ≤ a) (high : b ≤ to) where
    part_back : bits (floats_at ws a n) ≡ take n (drop a ws)
    part_back = bits_back (take n (drop a ws)) same
      where
        same : (i : ℕ) → i < length (take n (drop a ws)) → bits_of (float_of (get_or (take n (drop a ws)) i 0)) ≡ get_or (take n (drop a ws)) i 0
        same i h =
            let long : length (take n (drop a ws)) ≡ n = length-take-le n (drop a ws) (rw length-drop (omega arith)) in
            let here : get_or (take n (drop a ws)) i 0 ≡ slot_at ws (a + i) = get_or-take n (drop a ws) i 0 (omega arith) ∙ get_or-drop a ws i 0 in
            ap (λ (w : ℕ). bits_of (float_of w)) here ∙ back (a + i) (omega arith) (omega arith) ∙ sym here

    -- floats that were read there stand there,
    pub floats_stand : Stands (bits (floats_at ws a n)) a b
    floats_stand = record { there = rw (← on, part_back) (part_stands a n) }

    -- and so does the front of an array that they went to
    pub array_stands : (array : List Float) → Stands (bits (take n (in_front (floats_at ws a n) array))) a b
    array_stands array =
        let front = front_of n array (floats_at ws a n) (length_read ws a n (omega arith)) in
        record { there = ap (λ (xs : List Float). bits xs ++ drop b ws) front ∙ floats_stand.there }

  -- what stands from the first slot to the last is all
  pub stands_all : (xs : List ℕ) → Stands xs 0 (length ws) → xs ≡ ws
  stands_all xs e = sym (append-nil xs) ∙ ap (λ (l : List ℕ). xs ++ l) (sym (left_none ws (length ws) (omega arith))) ∙ e.there
