-- Any two outcomes that a call's description allows are the same: nothing is assumed but what the call promises. Assumes nothing.
use mathlib.Core.Path.{◌≡◌, sym, ap, ◌∙◌}
use mathlib.Core.List.{List}
use Prim.Native.Nat.{ℕ}
use lib.Ieee.{Float}
use Rattle.configuration.specs.declared.Configuration.{Configuration}
use Rattle.voice.specs.declared.Voice.{Voice}
use Rattle.voice.specs.declared.Answered.{Answered}
use Rattle.voice.specs.Open.{Opens}
use Rattle.refusing.specs.Refusal.{Frame}
use Rattle.giving.specs.Give.{Gives}
use Rattle.drawing.specs.declared.Drawn.{Drawn}
use Rattle.drawing.specs.Draw.{Draws}
use Rattle.whole.specs.Whole.{Renders}

-- answers with equal fields are equal
answered_same : (r s : Answered) → r.number ≡ s.number → r.voice ≡ s.voice → r ≡ s
answered_same r s n v = ap (λ (k : ℕ). record { number = k; voice = r.voice }) n ∙ ap (λ (w : Voice). record { number = s.number; voice = w }) v

drawn_same : (r s : Drawn) → r.number ≡ s.number → r.made ≡ s.made → r.voice ≡ s.voice → r ≡ s
drawn_same r s n m v =
    ap (λ (k : ℕ). record { number = k; made = r.made; voice = r.voice }) n
    ∙ ap (λ (k : ℕ). record { number = s.number; made = k; voice = r.voice }) m
    ∙ ap (λ (w : Voice). record { number = s.number; made = s.made; voice = w }) v

-- OPEN
pub open_agrees : (c : Configuration) (r s : Answered) → Opens c r → Opens c s → r ≡ s
open_agrees c r s p q = answered_same r s (p.number ∙ sym q.number) (p.voice ∙ sym q.voice)

-- GIVE
pub give_agrees : (f : Frame) (v : Voice) (r s : Answered) → Gives f v r → Gives f v s → r ≡ s
give_agrees f v r s p q = answered_same r s (p.number ∙ sym q.number) (p.voice ∙ sym q.voice)

-- DRAW, with the buffer
pub draw_agrees : (v : Voice) (out : List Float) (start : ℕ) (r s : Drawn) (a b : List Float) → Draws v out start r a → Draws v out start s b → (r ≡ s) × (a ≡ b)
draw_agrees v out start r s a b p q =
    (drawn_same r s (p.number ∙ sym q.number) (p.made ∙ sym q.made) (p.voice ∙ sym q.voice), p.buffer ∙ sym q.buffer)

-- WHOLE FRAME, with the buffer
pub whole_agrees : (f : Frame) (v : Voice) (out : List Float) (start : ℕ) (r s : Drawn) (a b : List Float) → Renders f v out start r a → Renders f v out start s b → (r ≡ s) × (a ≡ b)
whole_agrees f v out start r s a b p q =
    (drawn_same r s (p.number ∙ sym q.number) (p.made ∙ sym q.made) (p.voice ∙ sym q.voice), p.buffer ∙ sym q.buffer)
