-- An array of which no more than the front is changed: its length and what is past n are as they were. Assumes nothing.
use mathlib.Core.Path.{◌≡◌, refl, sym, ap, ◌∙◌}
use mathlib.Core.List.{List, [], ◌∷◌, ◌++◌}
use Prim.Native.Nat.{ℕ, zero, suc, ◌+◌, ◌-◌, ◌≤◌, ◌<◌}
use native.Mathlib.Omega.{arith}
use lib.ListN.{length, take, drop, set, replicate, length-set, take-append-drop}
use lib.Seq.{length-take-le, drop-drop, drop_at, drop-set-lt}
use lib.Ieee.{Float}
use Rattle.number.specs.F64.{0f}
use Rattle.number.specs.Lists.{put_row}
use Rattle.number.proofs.Lists.{length_over, length_put_row, put_row_after}
use Rattle.voice.specs.Voice.{in_front}
use Rattle.trips.specs.Clean.{zeros_from}

pub record Past (n : ℕ) (before after : List Float) : Type 0 where
  pub size : length after ≡ length before
  pub rest : drop n after ≡ drop n before

pub past_same : (n : ℕ) (l : List Float) → Past n l l
past_same n l = record { size = refl; rest = refl }

pub past_then : (n : ℕ) (a b c : List Float) → Past n a b → Past n b c → Past n a c
past_then n a b c h k = record { size = k.size ∙ h.size; rest = k.rest ∙ h.rest }

-- an entry, the front, or a row
pub past_set : (n : ℕ) (l : List Float) (i : ℕ) (x : Float) → i < n → Past n l (set l i x)
past_set n l i x h = record { size = length-set l i x; rest = drop-set-lt n l i x h }

pub past_front : (n : ℕ) (l ys : List Float) → length ys ≡ n → n ≤ length l → Past n l (in_front ys l)
past_front n l ys h k = record {
  size = length_over ys l (length ys) refl (omega (arith, h, k));
  rest = rw h (drop_at ys (drop n l) n h);
}

pub past_put : (n : ℕ) (l : List Float) (a e : ℕ) (r : List Float) → a ≤ e → e ≤ n → n ≤ length l → length r ≡ e - a → Past n l (put_row a e r l)
past_put n l a e r ae en nl h =
    let el : e ≤ length l = omega arith in
    let on : e + (n - e) ≡ n = omega arith in
    let after : drop (n - e) (drop e (put_row a e r l)) ≡ drop (n - e) (drop e l) = ap (drop (n - e)) (put_row_after a e l ae el r h) in
    record {
      size = length_put_row a e l ae el r h;
      rest = rw (drop-drop (n - e) e (put_row a e r l), drop-drop (n - e) e l, on) at after;
    }

-- zeros from n on stay zeros
pub zeros_still : (n size : ℕ) (before after : List Float) → Past n before after → n ≤ length before → before ≡ zeros_from n size before → after ≡ zeros_from n size after
zeros_still n size before after past h clean =
    let zeros = drop n (replicate size 0f) in
    let k : length (take n before) ≡ n = length-take-le n before h in
    let m : length (take n after) ≡ n = length-take-le n after (omega (arith, past.size, h)) in
    let whole : before ≡ take n before ++ zeros = clean ∙ rw k refl in
    let rest : drop n after ≡ zeros = past.rest ∙ ap (drop n) whole ∙ drop_at (take n before) zeros n k in
    sym (take-append-drop n after) ∙ ap (λ (l : List Float). take n after ++ l) rest ∙ rw m refl

-- a list in which its own front is put is as it was, however long the front
own_front : (n : ℕ) (l : List Float) → in_front (take n l) l ≡ l
own_front zero l = refl
own_front (suc n) [] = refl
own_front (suc n) (x ∷ l) = ap (λ (m : List Float). x ∷ m) (own_front n l)

-- zeros all through are zeros from n on
pub zeros_clean : (n size : ℕ) → replicate size 0f ≡ zeros_from n size (replicate size 0f)
zeros_clean n size = sym (own_front n (replicate size 0f))
