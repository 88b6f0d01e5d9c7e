-- The loops over the delay line, turn by turn. Assumes nothing.
use mathlib.Core.Path.{◌≡◌, refl, sym, ap, ◌∙◌}
use mathlib.Core.List.{List, [], ◌∷◌, ◌++◌, append-nil}
use Prim.Native.Nat.{ℕ, ◌+◌, ◌-◌, ◌≤◌, ◌<◌, min}
use native.Mathlib.Decide.{dec_le}
use native.Mathlib.Omega.{arith}
use lib.Ieee.{Float, nan}
use lib.ListN.{length, set, take, drop, length-drop, take-append-drop}
use lib.Seq.{take_all}
use Rattle.number.specs.F64.{◌⊕◌, ◌⊗◌, ◌‼◌, 0f}
use Rattle.number.specs.Lists.{over, row, put_row}
use Rattle.number.proofs.Lists.{left_next, left_none, front_turn, front_end, over_more, over_end}
use Rattle.delay.specs.Line.{with_pulse, shifted}

-- ---- c * lpf[k] is added at k: what is made of the rest
pulse_head : (c h : Float) (lpf : List Float) (tap : Float) (rest : List Float) → with_pulse c (h ∷ lpf) (tap ∷ rest) ≡ tap ⊕ c ⊗ h ∷ with_pulse c lpf rest
unfolding with_pulse
pulse_head c h lpf tap rest = refl

pulse_at : (c : Float) (lpf : List Float) (k : ℕ) (tap : Float) (rest : List Float) → k < length lpf
    → with_pulse c (drop k lpf) (tap ∷ rest) ≡ tap ⊕ c ⊗ (lpf ‼ k) ∷ with_pulse c (drop (k + 1) lpf) rest
pulse_at c lpf k tap rest h = rw (left_next lpf k nan h) (pulse_head c (lpf ‼ k) (drop (k + 1) lpf) tap rest)

pub pulse_turn : (c : Float) (lpf line : List Float) (k : ℕ) → k < length lpf → k < length line
    → let next = set line k (line ‼ k ⊕ c ⊗ (lpf ‼ k)) in
    take (k + 1) next ++ with_pulse c (drop (k + 1) lpf) (drop (k + 1) next) ≡ take k line ++ with_pulse c (drop k lpf) (drop k line)
pulse_turn c lpf line k h g =
    front_turn (with_pulse c (drop k lpf)) (with_pulse c (drop (k + 1) lpf)) line k (line ‼ k ⊕ c ⊗ (lpf ‼ k)) nan g (pulse_at c lpf k (line ‼ k) (drop (k + 1) line) h)

-- and where one of the two is at its end, nothing is left to add
pulse_none : (c : Float) (lpf : List Float) → with_pulse c lpf [] ≡ []
unfolding with_pulse
pulse_none c [] = refl
pulse_none c (h ∷ lpf) = refl

line_done : (c : Float) (lpf line : List Float) (k : ℕ) → length line ≤ k → take k line ++ with_pulse c (drop k lpf) (drop k line) ≡ line
line_done c lpf line k g = front_end line (with_pulse c (drop k lpf) (drop k line)) k g (ap (with_pulse c (drop k lpf)) (left_none line k g) ∙ pulse_none c (drop k lpf))

taps_done : (c : Float) (lpf line : List Float) (k : ℕ) → length lpf ≤ k → take k line ++ with_pulse c (drop k lpf) (drop k line) ≡ line
unfolding with_pulse
taps_done c lpf line k h = rw (left_none lpf k h) (take-append-drop k line)

pub pulse_end : (c : Float) (lpf line : List Float) (k : ℕ) → min (length line) (length lpf) ≤ k → take k line ++ with_pulse c (drop k lpf) (drop k line) ≡ line
pulse_end c lpf line k h = go (dec_le (length line) k)
  where
    go : Dec (length line ≤ k) → take k line ++ with_pulse c (drop k lpf) (drop k line) ≡ line
    go (yes g) = line_done c lpf line k g
    go (no g) = taps_done c lpf line k (omega (arith, g))

-- tap 0 by itself, after the others
pub pulse_apart : (c : Float) (lpf line rest : List Float) → 0 < length lpf → 0 < length line → rest ≡ with_pulse c (row 1 (length lpf) lpf) (row 1 (length line) line)
    → let next = put_row 1 (length line) rest line in set next 0 (next ‼ 0 ⊕ c ⊗ (lpf ‼ 0)) ≡ with_pulse c lpf line
pulse_apart c [] line rest h g e = absurd (omega arith)
pulse_apart c (x ∷ lpf) [] rest h g e = absurd (omega arith)
pulse_apart c (x ∷ lpf) (tap ∷ line) rest h g e =
    let taps : take (length (x ∷ lpf) - 1) lpf ≡ lpf = take_all (length (x ∷ lpf) - 1) lpf (omega arith) in
    let others : take (length (tap ∷ line) - 1) line ≡ line = take_all (length (tap ∷ line) - 1) line (omega arith) in
    let none : drop (length (tap ∷ line) - 1) line ≡ [] = left_none line (length (tap ∷ line) - 1) (omega arith) in
    let made : rest ≡ with_pulse c lpf line = rw (taps, others) at e in
    ap (λ (l : List Float). tap ⊕ c ⊗ x ∷ l) (ap (λ (l : List Float). rest ++ l) none ∙ append-nil rest ∙ made) ∙ sym (pulse_head c x lpf tap line)

-- ---- the line has moved down, and a zero comes in at the far end
pub shift_last : (L l : List Float) (k : ℕ) → length L ≡ k + 1 → l ≡ over (take k (drop 1 L)) k L → set l k 0f ≡ shifted L
unfolding shifted
shift_last L l k h e =
    let n : length (drop 1 L) ≡ k = length-drop 1 L ∙ (omega arith) in
    let all : take k (drop 1 L) ≡ drop 1 L = take_all k (drop 1 L) (omega arith) in
    ap (λ (m : List Float). set m k 0f) (e ∙ ap (λ (xs : List Float). over xs k L) all) ∙ over_more (drop 1 L) L k 0f n (omega arith) ∙ over_end (drop 1 L ++ (0f ∷ [])) L (k + 1) (omega arith)
