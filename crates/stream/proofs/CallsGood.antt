-- Give, draw and whole frame return good voices, refused, dry or done. Assumes nothing.
use mathlib.Core.Path.{◌≡◌, refl}
use Prim.Native.Nat.{ℕ, zero, suc, ◌≤◌, min}
use native.Mathlib.Nat.{min-le_right}
use native.Mathlib.Omega.{arith}
use lib.Ieee.{Float}
use Rattle.history.specs.Steps.{Step, dry, one, steps, onward}
use Rattle.history.specs.Machine.{Answer, unless, answer, sampled, gave, drew, whole, draw_refusal, whole_refusal}
use Rattle.voice.specs.declared.Voice.{Voice}
use Rattle.refusing.specs.Refusal.{Frame}
use Rattle.giving.specs.Give.{refusal, given}
use Rattle.drawing.specs.Step.{step}
use Rattle.drawing.specs.Draw.{voice_of}
use Rattle.held.specs.Held.{HeldFrame}
use Rattle.stream.proofs.UsableLaws.{step_usable}
use Rattle.stream.proofs.TripLaws.{Good}
use Rattle.stream.proofs.GoodLaws.{given_good, step_good}

-- so many samples of those left, or as many as can be had
pub steps_good : (bound n : ℕ) (v : Voice) → Good v → n ≤ v.left → Good (steps (step bound) n v).state
unfolding steps
steps_good bound zero v g h = g
steps_good bound (suc n) v g h = go (steps_good bound n) (step bound v) refl
  where
    go : ((t : Voice) → Good t → n ≤ t.left → Good (steps (step bound) n t).state) → (s : Step Voice Float) → step bound v ≡ s → Good (onward s v (steps (step bound) n)).state
    go ih dry e = g
    go ih (one x t) e =
        let less = (step_usable bound v t x g.usable (omega (arith, h)) e).1 in
        ih t (step_good bound v t x g (omega (arith, h)) e) (omega (arith, less, h))

-- by the number: refused, or what there is
by_number : (n : ℕ) (v : Voice) (a : Answer Voice Float) → Good v → (n ≡ 0 → Good a.state) → Good (unless n v a).state
by_number zero v a g h = h refl
by_number (suc n) v a g h = g

module _ (bound : ℕ) where
  pub gave_good : (f : Frame) (v : Voice) → HeldFrame f → Good v → Good (gave (voice_of bound) f v).state
  unfolding gave
  gave_good f v k g = by_number (refusal f v) v (answer 0 _ (given f v)) g (given_good f v k g)

  pub drew_good : (room : ℕ) (v : Voice) → Good v → Good (drew (voice_of bound) room v).state
  unfolding drew
  drew_good room v g =
      by_number (draw_refusal (voice_of bound) v) v (sampled (steps (step bound) (min room v.left) v)) g
      (λ (e : draw_refusal (voice_of bound) v ≡ 0). steps_good bound (min room v.left) v g (min-le_right room v.left))

  pub whole_good : (f : Frame) (room : ℕ) (v : Voice) → HeldFrame f → Good v → Good (whole (voice_of bound) f room v).state
  unfolding whole
  whole_good f room v k g =
      let a = gave (voice_of bound) f v in
      let good = gave_good f v k g in
      by_number (whole_refusal (voice_of bound) room v) v (unless a.number a.state (drew (voice_of bound) room a.state)) g
      (λ (e : whole_refusal (voice_of bound) room v ≡ 0). by_number a.number a.state (drew (voice_of bound) room a.state) good (λ (q : a.number ≡ 0). drew_good room a.state good))
