-- The ways out of draw. Assumes nothing.
use mathlib.Core.Path.{◌≡◌, refl, sym, ap, ◌∙◌}
use mathlib.Core.Bool.{Bool, true, false, true≢false}
use mathlib.Core.List.{List, [], ◌∷◌, ◌++◌, append_assoc}
use Prim.Native.Nat.{ℕ, zero, suc, ◌+◌, ◌-◌, ◌≤◌, ◌<◌, min}
use native.Mathlib.Nat.{zero-min}
use native.Mathlib.Omega.{arith}
use lib.Dec.{eqb}
use borrow.Author.Tests.{not-false}
use lib.ListN.{length, take, drop, take-append-drop, length-drop}
use lib.Seq.{drop-drop, length-take-le}
use lib.Ieee.{Float}
use Rattle.number.specs.Lists.{over, row, put_row}
use Rattle.history.specs.Numbers.{nothing_left}
use Rattle.history.specs.Steps.{steps}
use Rattle.history.specs.Machine.{◌⇒◌, answer, sampled, drew, draw_refusal}
use Rattle.history.proofs.StepLaws.{steps_dry}
use Rattle.noise.specs.Draw.{tries}
use Rattle.voice.specs.declared.Voice.{Voice}
use Rattle.voice.specs.declared.answers.Refusal.{Refusal}
use Rattle.voice.specs.Voice.{idle, acceptable}
use Rattle.voice.specs.Answers.{number_of}
use Rattle.voice.proofs.AnswersLaws.{above_done}
use Rattle.refusing.proofs.EarlierLaws.{first_none}
use Rattle.drawing.specs.Step.{step}
use Rattle.drawing.specs.Draw.{voice_of, room_from, placed, number_for, drawn, Draws}

-- what was left of a part that was filled in front, and what follows it, is what follows the filled
rest_of : (x : List Float) (m n : ℕ) → m ≤ n → drop m (take n x) ++ drop n x ≡ drop m x
rest_of x zero n h = take-append-drop n x
rest_of x (suc m) zero h = absurd (omega arith)
rest_of [] (suc m) (suc n) h = refl
rest_of (y ∷ x) (suc m) (suc n) h = rest_of x m n (omega arith)

-- a part of n entries has n
pub lent_part : (start n : ℕ) (out : List Float) → start + n ≤ length out → length (row start (start + n) out) ≡ n
lent_part start n out h =
    let k : start + n - start ≡ n = omega arith in
    rw k (length-take-le n (drop start out) (simp length-drop (omega arith)))

-- samples put into the front of a part, and the part put back
put_part : (start n : ℕ) (xs out : List Float) (m : ℕ) → m ≡ length xs → m ≤ n
    → put_row start (start + n) (over xs m (row start (start + n) out)) out ≡ placed start xs out
put_part start n xs out m e h =
    let k : start + n - start ≡ n = omega arith in
    let on : start + m ≡ start + length xs = omega (arith, e) in
    rw k
    (ap (λ (l : List Float). take start out ++ l)
    (append_assoc xs (drop m (take n (drop start out))) (drop n (drop start out))
    ∙ ap (λ (l : List Float). xs ++ l) (rest_of (drop start out) m n h ∙ drop-drop m start out ∙ ap (λ (j : ℕ). drop j out) on)))

-- nothing made, nothing written
pub placed_none : (start : ℕ) (out : List Float) → placed start [] out ≡ out
placed_none start out = let all : start + 0 ≡ start = omega arith in rw all (take-append-drop start out)

-- where nothing refuses it, draw has samples to make
pub record Draws_on (v : Voice) : Type 0 where
  pub usable : acceptable v.configuration v.meter v.left v.first v.random.used ≡ true
  pub some : 0 < v.left

pub draws_on : (v : Voice) → draw_refusal (voice_of tries) v ≡ 0 → Draws_on v
unfolding idle
draws_on v e =
    let one = first_none (idle v) 1 (eqb v.left 0 ⇒ nothing_left ∷ []) e in
    let two = first_none (eqb v.left 0) 9 [] one.1 in
    record { usable = not-false _ one.0; some = positive v.left two.0 }
  where
    positive : (n : ℕ) → eqb n 0 ≡ false → 0 < n
    positive zero h = absurd (true≢false h)
    positive (suc n) h = omega arith

module _ (v : Voice) (out : List Float) (start : ℕ) where
  abbrev kept : Bool
  kept = acceptable v.configuration v.meter v.left v.first v.random.used

  -- an answer without samples
  without : (n : ℕ) → drawn v out start ≡ answer n [] v → Draws v out start (record { number = n; made = 0; voice = v }) out
  without n e = record { number = rw e refl; made = rw e refl; voice = rw e refl; buffer = rw e (sym (placed_none start out)) }

  pub draws_refused : (e : Refusal) → number_of e ≡ draw_refusal (voice_of tries) v → Draws v out start (record { number = number_of e; made = 0; voice = v }) out
  unfolding drew
  draws_refused e h = go (above_done e)
    where
      go : (n : ℕ) × (number_of e ≡ suc n) → Draws v out start (record { number = number_of e; made = 0; voice = v }) out
      go (n, k) = rw k (without (suc n) (rw (← h, k) refl))

  pub draws_idle : kept ≡ false → Draws v out start (record { number = 2; made = 0; voice = v }) out
  unfolding drew idle
  draws_idle k = without 2 (rw k refl)

  pub draws_none_left : kept ≡ true → eqb v.left 0 ≡ true → Draws v out start (record { number = 10; made = 0; voice = v }) out
  unfolding drew idle
  draws_none_left k e = without 10 (rw (k, e) refl)

  -- where nothing refuses it
  module _ (none : draw_refusal (voice_of tries) v ≡ 0) where
    drawn_is : (n : ℕ) → min (room_from start out) v.left ≡ n → drawn v out start ≡ sampled (steps (step tries) n v)
    unfolding drew
    drawn_is n h = rw (none, h) refl

    pub draws_empty : room_from start out ≡ 0 → Draws v out start (record { number = 0; made = 0; voice = v }) out
    unfolding steps
    draws_empty h = without 0 (drawn_is 0 (ap (λ (r : ℕ). min r v.left) h ∙ zero-min v.left))

    -- n samples asked for, in their place
    module _ (n : ℕ) (is-n : n ≡ min (room_from start out) v.left) (inside : start + n ≤ length out) (made : ℕ) (last : Voice) (part : List Float)
        (is_last : last ≡ (steps (step tries) n v).state) (is_made : made ≡ length (steps (step tries) n v).made)
        (is-part : part ≡ over (steps (step tries) n v).made made (row start (start + n) out)) (few : made ≤ n) where
      buffer_is : put_row start (start + n) part out ≡ placed start (steps (step tries) n v).made out
      buffer_is = rw is-part (put_part start n (steps (step tries) n v).made out made is_made few)

      pub draws_sounded : (number : ℕ) → number ≡ number_for made n → Draws v out start (record { number = number; made = made; voice = last }) (put_row start (start + n) part out)
      draws_sounded number h =
          let is = drawn_is n (sym is-n) in
          record { number = rw (is, steps_dry (step tries) n v, ← is_made) h; made = rw is is_made; voice = rw is is_last; buffer = rw is buffer_is }

  -- the same, where the voice is usable and samples are left
  module _ (k : kept ≡ true) (e : eqb v.left 0 ≡ false) where
    unrefused : draw_refusal (voice_of tries) v ≡ 0
    unfolding idle
    unrefused = rw (k, e) refl

    pub draws_no_room : length out ≤ start → Draws v out start (record { number = 0; made = 0; voice = v }) out
    draws_no_room h = draws_empty unrefused (omega arith)

    pub draws_made : (n : ℕ) → n ≡ min (room_from start out) v.left → start + n ≤ length out → (made : ℕ) (last : Voice) (part : List Float)
        → last ≡ (steps (step tries) n v).state → made ≡ length (steps (step tries) n v).made
        → part ≡ over (steps (step tries) n v).made made (row start (start + n) out) → made ≤ n
        → (number : ℕ) → number ≡ number_for made n → Draws v out start (record { number = number; made = made; voice = last }) (put_row start (start + n) part out)
    draws_made n is-n inside made last part is_last is_made is-part few number h = draws_sounded unrefused n is-n inside made last part is_last is_made is-part few number h
